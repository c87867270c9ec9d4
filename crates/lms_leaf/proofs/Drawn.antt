-- A leaf inside a block that was begun.
use Rattle.std.proofs.Common.{◌≡◌, ◌≢◌, ℕ, ◌-◌, ◌/◌, ◌%◌, ◌≤◌, List, arith}
use Rattle.lms_leaf.specs.LeafFile.{IsTaken, AreTaken}
use Rattle.lms_leaf.specs.declared.leaf_file.TheConstants.{LEAVES_PER_BLOCK}

-- the leaf before shares its block
pub begun : (images : List ℕ → Type 0) (first next : ℕ) → first % LEAVES_PER_BLOCK ≡ 0 → first ≤ next → AreTaken images first next
    → next % LEAVES_PER_BLOCK ≢ 0 → IsTaken images next
begun images first next whole forward taken inside =
    let positive : next ≢ first = λ same. inside (rw same whole) in
    let shared : (next - 1) / LEAVES_PER_BLOCK ≡ next / LEAVES_PER_BLOCK = omega (arith, inside) in
    rw (← shared) (taken (next - 1) (omega arith) (omega arith))
