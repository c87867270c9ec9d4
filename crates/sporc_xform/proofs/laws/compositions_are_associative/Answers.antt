use Rattle.sporc_xform.proofs.Associative.{compose-assoc}
use Rattle.sporc_xform.proofs.laws.compositions_are_associative.Goals as goal

pub returns : goal.returns
returns c = record { same = compose-assoc }
