use Rattle.sporc_script.proofs.Common.{strip_suffix_is, Decides-eqb}
use Rattle.sporc_script.proofs.words.before.Goals as goal

pub returns : goal.returns
returns c = record { value = strip_suffix_is Decides-eqb _ _ _ c.strip_suffix.ensures.cases }
