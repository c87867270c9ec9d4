use Rattle.std.proofs.Common.{◌≡◌, take}
use Rattle.lms_leaf.specs.LeafFile.{taken_blocks}
use Rattle.lms_leaf.proofs.leaf_file.taken_of.Given as goal

abbrev pub invariant-loop-i : goal.invariant-loop-i
invariant-loop-i l = l.taken ≡ taken_blocks (take l.i l.bytes)
