use Rattle.sporc_top.proofs.Outcomes.{on_generated}
use Rattle.sporc_top.proofs.laws.generated_runs_are_played.Goals as goal

pub returns : goal.returns
returns g c = λ words did status n outcome asks. on_generated _ words did status outcome n asks
