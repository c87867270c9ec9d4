-- A leaf file: a byte for each block of leaves, zero as long as the block is not taken.
use Rattle.std.specs.Prelude.{◌≡◌, ◌⊎◌, ℕ, ◌+◌, ◌/◌, ◌^◌, ◌<◌, ◌≤◌, ◌==◌, ◌&&◌, List, [], ◌∷◌}
use Rattle.std.specs.Prelude.{if◌then◌else◌}
use Rattle.sporc_outside.specs.LeafDisk.{IsStable}
use Rattle.lms_leaf.specs.declared.leaf_file.TheConstants.{LEAVES_PER_BLOCK}

-- the heights of trees that have such a file
abbrev pub IsLeafHeight : ℕ → Type 0
IsLeafHeight height = (height ≡ 5) ⊎ (height ≡ 10) ⊎ (height ≡ 15)

-- how many blocks the leaves of a tree make
abbrev pub block_count : ℕ → ℕ
block_count height = 2 ^ height / LEAVES_PER_BLOCK

-- how many bytes there are up to the last that is not zero
abbrev pub taken_blocks : List ℕ → ℕ
taken_blocks [] = 0
taken_blocks (byte ∷ bytes) =
    let later = taken_blocks bytes in
    if (later == 0) && (byte == 0) then 0 else later + 1

-- no crash leaves the byte of this leaf's block zero
abbrev pub IsTaken : (List ℕ → Type 0) → ℕ → Type 0
IsTaken images leaf = IsStable images (leaf / LEAVES_PER_BLOCK)

-- nor that of any leaf from one up to another
abbrev pub AreTaken : (List ℕ → Type 0) → ℕ → ℕ → Type 0
AreTaken images first end = (leaf : ℕ) → first ≤ leaf → leaf < end → IsTaken images leaf

-- the block of this leaf or of a later one is taken: whatever a crash leaves, an opening goes on
-- above the leaf
abbrev pub IsPassed : (List ℕ → Type 0) → ℕ → Type 0
IsPassed images leaf = (other : ℕ) × (leaf ≤ other) × IsTaken images other

-- so of each leaf up to another
abbrev pub ArePassed : (List ℕ → Type 0) → ℕ → Type 0
ArePassed images end = (leaf : ℕ) → leaf < end → IsPassed images leaf
