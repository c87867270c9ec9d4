use Rattle.std.proofs.Common.{length}
use Rattle.sporc_docs.proofs.hands.+split_hands.Given as goal

abbrev pub decreases-split_hands : goal.decreases-split_hands
decreases-split_hands g l = length l.hands.now
