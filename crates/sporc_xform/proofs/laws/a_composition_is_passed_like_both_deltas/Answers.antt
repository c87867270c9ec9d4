use Rattle.sporc_xform.proofs.LawLemmas.{passes_both}
use Rattle.sporc_xform.proofs.laws.a_composition_is_passed_like_both_deltas.Goals as goal

pub returns : goal.returns
returns c = record { same = passes_both }
