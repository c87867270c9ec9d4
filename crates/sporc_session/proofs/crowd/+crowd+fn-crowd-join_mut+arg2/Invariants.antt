use Rattle.std.proofs.Common.{length, ◌*◌, ◌+◌}
use Rattle.sporc_session.proofs.crowd.+crowd+fn-crowd-join_mut+arg2.Given as goal

abbrev pub decreases-crowd : goal.decreases-crowd
decreases-crowd g l = 2 * length l.scripts.now

abbrev pub decreases-join_mut+arg2 : goal.decreases-join_mut+arg2
decreases-join_mut+arg2 g l = 2 * length l.others.now + 1
