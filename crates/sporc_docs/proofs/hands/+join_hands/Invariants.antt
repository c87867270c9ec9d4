use Rattle.std.proofs.Common.{length}
use Rattle.sporc_docs.proofs.hands.+join_hands.Given as goal

abbrev pub decreases-join_hands : goal.decreases-join_hands
decreases-join_hands g l = length l.hands.now
