use Rattle.sporc_top.proofs.Outcomes.{on_long}
use Rattle.sporc_top.proofs.laws.long_scripts_are_told.Goals as goal

pub returns : goal.returns
returns g c = λ text did status play above. on_long _ play.words did status play.outcome text play.asks play.told above
