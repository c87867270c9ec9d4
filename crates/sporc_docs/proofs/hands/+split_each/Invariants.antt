use Rattle.std.proofs.Common.{length}
use Rattle.sporc_docs.proofs.hands.+split_each.Given as goal

abbrev pub decreases-split_each : goal.decreases-split_each
decreases-split_each g l = length l.turns.now
