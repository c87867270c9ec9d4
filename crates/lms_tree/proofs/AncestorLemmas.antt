-- The way up from a leaf, as the loop goes it.
use Rattle.std.proofs.Common.{◌≡◌, ℕ, suc, ◌+◌, ◌*◌, ◌/◌, ◌^◌, List, take, drop, refl, ap, ◌∙◌, arith}
use Rattle.std.proofs.lemmas.Nat.{shr-shr}
use Rattle.lms_tree.specs.Nodes.{ancestor_of, parent_value}

-- no level
pub ancestor_none : (id : List ℕ) (r : ℕ) (leaf path : List ℕ) → (leaf ≡ ancestor_of id r leaf path 0) × (r ≡ r / 1)
unfolding ancestor_of
ancestor_none id r leaf path = (refl, omega arith)

-- one more level
pub ancestor_more : (id : List ℕ) (r : ℕ) (leaf path : List ℕ) (i node len : ℕ) (value beside next : List ℕ)
    → (value ≡ ancestor_of id r leaf path i) × (node ≡ r / 2 ^ i) → len ≡ 32 → beside ≡ take len (drop (32 * i) path)
    → next ≡ parent_value id node value beside
    → (next ≡ ancestor_of id r leaf path (i + 1)) × (node / 2 ≡ r / 2 ^ (i + 1))
unfolding ancestor_of
ancestor_more id r leaf path i node len value beside next before size cut parent =
    let more : i + 1 ≡ suc i = omega arith in
    let whole = rw size at cut in
    (rw (more, ← whole, ← before.0, ← before.1) parent, ap (λ (n : ℕ). n / 2) before.1 ∙ shr-shr r i 1)
