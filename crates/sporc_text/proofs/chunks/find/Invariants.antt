use Rattle.std.proofs.Common.{◌≡◌, ◌+◌, length, take}
use Rattle.sporc_text.proofs.Common.{concat}
use Rattle.sporc_text.proofs.chunks.find.Given as goal

abbrev pub invariant-loop-i : goal.invariant-loop-i
invariant-loop-i l = length (concat (take l.i l.chunks)) + l.left ≡ l.place
