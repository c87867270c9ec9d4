use Rattle.std.proofs.Common.{length}
use Rattle.sporc_hosting.proofs.loading.+is_held.Given as goal

abbrev pub decreases-is_held : goal.decreases-is_held
decreases-is_held l = length l.orders.now
