-- A worked example of the bytes of a leaf file, computed.
use Rattle.std.proofs.Common.{◌≡◌, [], ◌∷◌, refl}
use Rattle.lms_leaf.specs.LeafFile.{taken_blocks}

-- the second byte is zero, the third is the last that is not
three_up_to_the_last : taken_blocks (1 ∷ 0 ∷ 9 ∷ 0 ∷ []) ≡ 3
three_up_to_the_last = refl
