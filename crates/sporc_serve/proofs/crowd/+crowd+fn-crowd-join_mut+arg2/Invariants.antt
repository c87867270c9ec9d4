use Rattle.std.proofs.Common.{◌*◌, ◌+◌}
use Rattle.sporc_serve.proofs.crowd.+crowd+fn-crowd-join_mut+arg2.Given as goal

abbrev pub decreases-crowd : goal.decreases-crowd
decreases-crowd g l = 2 * l.sessions

abbrev pub decreases-join_mut+arg2 : goal.decreases-join_mut+arg2
decreases-join_mut+arg2 g l = 2 * l.others + 1
