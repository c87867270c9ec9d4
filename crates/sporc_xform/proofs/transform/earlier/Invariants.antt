use Rattle.std.proofs.Common.{length}
use Rattle.sporc_xform.proofs.Common.{earlier, earlier_step}
use Rattle.sporc_xform.proofs.Restated.{Restates}
use Rattle.sporc_xform.proofs.transform.earlier.Given as goal

abbrev pub invariant-runs : goal.invariant-runs
invariant-runs l = Restates earlier_step l.delta l.steps (earlier l.fn.p l.fn.q)

abbrev pub decreases-runs : goal.decreases-runs
decreases-runs l = length l.steps
