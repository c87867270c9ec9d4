use Rattle.std.proofs.Common.{◌≡◌, take}
use Rattle.sporc_play.proofs.generated.are_same_hashes.Given as goal

abbrev pub invariant-loop-i : goal.invariant-loop-i
invariant-loop-i l = take l.i l.one ≡ take l.i l.other
