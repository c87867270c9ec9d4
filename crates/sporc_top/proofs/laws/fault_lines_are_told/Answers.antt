use Rattle.sporc_top.proofs.Outcomes.{on_fault_line}
use Rattle.sporc_top.proofs.laws.fault_lines_are_told.Goals as goal

pub returns : goal.returns
returns g c = λ text did status play within line is. on_fault_line _ play.words did status play.outcome text play.asks play.told line within is
