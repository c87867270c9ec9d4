use Rattle.std.proofs.Common.{◌*◌, ◌-◌}
use Rattle.sporc_thread_tests.proofs.lock.work.+crowd+fn-crowd-join+arg2.Given as goal

abbrev pub decreases-crowd : goal.decreases-crowd
decreases-crowd g l = 2 * l.others

abbrev pub decreases-join+arg2 : goal.decreases-join+arg2
decreases-join+arg2 g l = 2 * l.others - 1
