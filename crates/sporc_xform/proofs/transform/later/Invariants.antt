use Rattle.std.proofs.Common.{length}
use Rattle.sporc_xform.proofs.Common.{later, later_step}
use Rattle.sporc_xform.proofs.Restated.{Restates}
use Rattle.sporc_xform.proofs.transform.later.Given as goal

abbrev pub invariant-runs : goal.invariant-runs
invariant-runs l = Restates later_step l.delta l.steps (later l.fn.q l.fn.p)

abbrev pub decreases-runs : goal.decreases-runs
decreases-runs l = length l.steps
