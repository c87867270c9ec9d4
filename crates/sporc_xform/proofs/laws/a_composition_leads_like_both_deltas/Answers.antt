use Rattle.sporc_xform.proofs.InTurn.{apply-compose}
use Rattle.sporc_xform.proofs.laws.a_composition_leads_like_both_deltas.Goals as goal

pub returns : goal.returns
returns c = record { value = apply-compose }
