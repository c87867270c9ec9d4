use Rattle.std.proofs.Common.{◌≡◌, take}
use Rattle.sporc_play.proofs.Common.{pairs_in, derived_pairs}
use Rattle.sporc_play.proofs.forging.pairs_with.Given as goal

abbrev pub invariant-loop-member : goal.invariant-loop-member
invariant-loop-member l = pairs_in l.pairs ≡ derived_pairs l.rogue (take l.member-index l.members)
