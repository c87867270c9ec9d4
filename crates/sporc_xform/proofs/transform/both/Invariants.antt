use Rattle.std.proofs.Common.{length}
use Rattle.sporc_xform.proofs.Common.{earlier, earlier_step, later, later_step}
use Rattle.sporc_xform.proofs.Restated.{Restates}
use Rattle.sporc_xform.proofs.transform.both.Given as goal

abbrev pub invariant-runs : goal.invariant-runs
invariant-runs l = record {
  first : Restates earlier_step l.first l.steps (earlier l.fn.p l.fn.q);
  second : Restates later_step l.second l.steps (later l.fn.q l.fn.p);
}

abbrev pub decreases-runs : goal.decreases-runs
decreases-runs l = length l.steps
