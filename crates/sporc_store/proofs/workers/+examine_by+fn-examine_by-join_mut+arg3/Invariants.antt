use Rattle.std.proofs.Common.{◌*◌, ◌+◌}
use Rattle.sporc_store.proofs.workers.+examine_by+fn-examine_by-join_mut+arg3.Given as goal

abbrev pub decreases-examine_by : goal.decreases-examine_by
decreases-examine_by g l = 2 * l.workers

abbrev pub decreases-join_mut+arg3 : goal.decreases-join_mut+arg3
decreases-join_mut+arg3 g l = 2 * l.others + 1
