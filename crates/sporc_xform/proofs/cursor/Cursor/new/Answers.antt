use Rattle.sporc_xform.proofs.Steps.{NoneEmpty-runs}
use Rattle.sporc_xform.proofs.cursor.Cursor.new.Goals as goal

pub at_start-requires : goal.at_start-requires
at_start-requires c = NoneEmpty-runs _ c.parts.ensures.are_runs
