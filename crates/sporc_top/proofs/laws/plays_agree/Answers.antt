use Rattle.std.proofs.Common.{refl}
use Rattle.sporc_top.proofs.Outcomes.{on_done}
use Rattle.sporc_top.proofs.laws.plays_agree.Goals as goal

pub returns : goal.returns
returns g c = λ words did outcome play text tells. on_done _ words did 0 outcome text play tells refl
