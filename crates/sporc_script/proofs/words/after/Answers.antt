use Rattle.sporc_script.proofs.Common.{strip_prefix_is, Decides-eqb}
use Rattle.sporc_script.proofs.words.after.Goals as goal

pub returns : goal.returns
returns c = record { value = strip_prefix_is Decides-eqb _ _ _ c.strip_prefix.ensures.cases }
