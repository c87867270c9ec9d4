use Rattle.sporc_delta.proofs.Runs.{runs-marks_of}
use Rattle.sporc_delta.proofs.delta.Delta.encode.Goals as goal

pub returns : goal.returns
returns c = record {
  ok = rw (← c.self.view_is, runs-marks_of c.self.inside.parts.items c.self.invariant.are_runs, ← c.as_slice.ensures.value) c.parts_encoded.ensures.ok;
  typed = rw (← c.self.view_is, runs-marks_of c.self.inside.parts.items c.self.invariant.are_runs, ← c.as_slice.ensures.value) c.parts_encoded.ensures.typed;
}
