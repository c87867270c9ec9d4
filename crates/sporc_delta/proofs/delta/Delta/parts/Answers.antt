use Rattle.std.proofs.Common.{sym}
use Rattle.sporc_delta.proofs.Runs.{runs-marks_of}
use Rattle.sporc_delta.proofs.delta.Delta.parts.Goals as goal

pub returns-clause-value : goal.returns-clause-value
returns-clause-value c = rw (c.as_slice.ensures.value, ← c.self.view_is) (sym (runs-marks_of c.self.inside.parts.items c.self.invariant.are_runs))
