-- What is taken as a leaf file was opened.
use Rattle.std.proofs.Common.{◌≡◌, ℕ, ◌+◌, ◌-◌, ◌*◌, ◌/◌, ◌<◌, ◌≤◌, List, Option, Some, IfSome, arith, subst}
use Rattle.lms_leaf.specs.LeafFile.{ArePassed, AreTaken, taken_blocks}
use Rattle.lms_leaf.specs.Leaves.{IsSynced}
use Rattle.lms_leaf.specs.declared.leaf_file.TheConstants.{LEAVES_PER_BLOCK}
use Rattle.lms_leaf.proofs.TakenBlocks.{last_taken}

-- the last block that is taken in what a read gives
last_in : (next leaf : ℕ) (bytes : List ℕ) → next ≡ LEAVES_PER_BLOCK * taken_blocks bytes → next - 1 ≤ leaf → leaf < next
    → taken_blocks bytes ≡ leaf / LEAVES_PER_BLOCK + 1
last_in next leaf bytes is low high = omega (arith, is, low, high)

-- is taken once the disk is synced
pub taken_at_open : (stored : Option (List ℕ)) (images : List ℕ → Type 0) (next : ℕ)
    → IfSome stored (λ bytes. next ≡ LEAVES_PER_BLOCK * taken_blocks bytes) → IsSynced stored images → AreTaken images (next - 1) next
taken_at_open stored images next from synced = λ leaf low high image is.
    let reads : IfSome (Some image) (λ bytes. next ≡ LEAVES_PER_BLOCK * taken_blocks bytes) =
    subst (λ (o : Option (List ℕ)). IfSome o (λ bytes. next ≡ LEAVES_PER_BLOCK * taken_blocks bytes)) (synced image is) from in
    last_taken image (leaf / LEAVES_PER_BLOCK) (last_in next leaf image reads low high)

-- so each leaf up to the next one is passed
pub passed_below : (images : List ℕ → Type 0) (first next : ℕ) → first ≤ next → AreTaken images (first - 1) next → ArePassed images next
passed_below images first next forward taken = λ leaf below.
    (next - 1, omega (arith, below), taken (next - 1) (omega (arith, forward)) (omega (arith, below)))

pub taken_from : (images : List ℕ → Type 0) (first next : ℕ) → AreTaken images (first - 1) next → AreTaken images first next
taken_from images first next taken = λ leaf from below. taken leaf (omega (arith, from)) below
