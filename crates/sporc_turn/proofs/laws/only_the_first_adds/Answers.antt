use Rattle.sporc_turn.proofs.Extending.{only_first_adds}
use Rattle.sporc_turn.proofs.laws.only_the_first_adds.Goals as goal

pub returns : goal.returns
returns g c = only_first_adds g.S.Kept.by
