use Rattle.std.proofs.Common.{length}
use Rattle.sporc_hosting.proofs.saving.+keep_logs.Given as goal

abbrev pub decreases-keep_logs : goal.decreases-keep_logs
decreases-keep_logs g l = length l.names.now
