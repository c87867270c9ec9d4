use Rattle.std.proofs.Common.{length}
use Rattle.sporc_docs.proofs.hands.+join_each.Given as goal

abbrev pub decreases-join_each : goal.decreases-join_each
decreases-join_each g l = length l.turns.now
