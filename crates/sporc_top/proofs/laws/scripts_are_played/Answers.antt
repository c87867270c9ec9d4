use Rattle.sporc_top.proofs.Outcomes.{on_script}
use Rattle.sporc_top.proofs.laws.scripts_are_played.Goals as goal

pub returns : goal.returns
returns g c = λ text did status play within script is. on_script _ play.words did status play.outcome text play.asks play.told script within is
