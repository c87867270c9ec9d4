-- The siblings on the way up from a leaf, and the root to which it leads.
use Rattle.std.proofs.Common.{◌≡◌, ◌≢◌, ℕ, zero, suc, ◌+◌, ◌-◌, ◌*◌, ◌/◌, ◌%◌, ◌^◌, ◌<◌, ◌≤◌, List, [], ◌∷◌, ◌++◌, length, take, drop, slice_index_or, refl, ap, ◌∙◌, arith, inl, inr}
use Rattle.std.proofs.lemmas.Nat.{shr-shr, pow_pos, shr_high}
use Rattle.std.proofs.Math.Nat.{pow-le-pow_right}
use Rattle.std.proofs.lemmas.Bool.Decides.{eqb_tells}
use Rattle.std.proofs.lemmas.List.{get_or_default}
use Rattle.lms_tree.specs.LmsType.{height_of}
use Rattle.lms_tree.specs.Nodes.{node_of, sibling, ancestor_of, parent_value}
use Rattle.lms_tree.proofs.NodeArrayLemmas.{bits_low, bits_high}
use Rattle.lms_tree.specs.LmsPrivate.{LmsPrivate, node_at, path_of}
use Rattle.lms_tree.specs.NodeArray.{HasNodes}

-- a node and its sibling have one parent
pub sibling_half : (r : ℕ) → sibling r / 2 ≡ r / 2
sibling_half r =
    elim (eqb_tells (r % 2) 0) [
      | inl even ↦ rw even.0 (let place : r % 2 ≡ 0 = even.1 in omega arith)
      | inr odd ↦ rw odd.0 (let place : r % 2 ≢ 0 = odd.1 in omega arith)
    ]

pub sibling_bits : (r j : ℕ) → r / 2 ^ (1 + j) ≡ 1 → sibling r / 2 ^ (1 + j) ≡ 1
sibling_bits r j e = rw (← shr-shr (sibling r) 1 j, sibling_half r, shr-shr r 1 j) e

-- a node on the way up from leaf q
pub way_bits : (h q k j : ℕ) → q < 2 ^ h → k + j ≡ h → (2 ^ h + q) / 2 ^ k / 2 ^ j ≡ 1
way_bits h q k j fits sum =
    let whole : (1 * 2 ^ h + q) / 2 ^ h ≡ 1 = shr_high 1 h q fits in
    let one : 1 * 2 ^ h ≡ 2 ^ h = omega arith in
    rw (shr-shr (2 ^ h + q) k j, sum) (rw one at whole)

-- a node is made of the node on the way and its sibling
pub parent_node : (key : LmsPrivate) (k r : ℕ) → parent_value key.id r (node_at key k r) (node_at key k (sibling r)) ≡ node_at key (suc k) (r / 2)
unfolding node_of
parent_node key k r =
    elim (eqb_tells (r % 2) 0) [
      | inl even ↦
          let place : r % 2 ≡ 0 = even.1 in
          let left : 2 * (r / 2) ≡ r = omega arith in
          rw (even.0, left) refl
      | inr odd ↦
          let place : r % 2 ≢ 0 = odd.1 in
          let left : 2 * (r / 2) ≡ r - 1 = omega arith in
          let right : r - 1 + 1 ≡ r = omega arith in
          rw (odd.0, left, right) refl
    ]

-- the way up leads to the nodes above
pub ancestor_nodes : (key : LmsPrivate) (r : ℕ) (path leaf : List ℕ) (h n : ℕ) → leaf ≡ node_at key 0 r
    → ((i : ℕ) → i < h → take 32 (drop (32 * i) path) ≡ node_at key i (sibling (r / 2 ^ i))) → n ≤ h
    → ancestor_of key.id r leaf path n ≡ node_at key n (r / 2 ^ n)
unfolding ancestor_of
ancestor_nodes key r path leaf h zero first each fits = let e : r / 1 ≡ r = omega arith in rw e first
ancestor_nodes key r path leaf h (suc n) first each fits =
    let sum : n + 1 ≡ suc n = omega arith in
    let up = rw sum at (shr-shr r n 1) in
    rw (ancestor_nodes key r path leaf h n first each (omega arith), each n (omega arith), ← up) (parent_node key n (r / 2 ^ n))

-- no level of a path, and one more
pub path_none : (key : LmsPrivate) (q leaves : ℕ) → leaves ≡ 2 ^ height_of key.lms
    → ([] ≡ path_of key q 0) × (leaves + q ≡ (2 ^ height_of key.lms + q) / 1)
unfolding path_of
path_none key q leaves all = (refl, rw all (omega arith))

pub path_more : (key : LmsPrivate) (nodes path new : List (List ℕ)) (q i node place : ℕ) (x : List ℕ) → HasNodes key nodes 1
    → q < 2 ^ height_of key.lms → i < height_of key.lms
    → (path ≡ path_of key q i) × (node ≡ (2 ^ height_of key.lms + q) / 2 ^ i)
    → place ≡ sibling node → x ≡ slice_index_or nodes place x → new ≡ path ++ x ∷ []
    → (new ≡ path_of key q (i + 1)) × (node / 2 ≡ (2 ^ height_of key.lms + q) / 2 ^ (i + 1))
unfolding path_of
path_more key nodes path new q i node place x all fits level before spot read pushed =
    let h = height_of key.lms in
    let more : i + 1 ≡ suc i = omega arith in
    let j = h - i - 1 in
    let sum : i + (1 + j) ≡ h = omega arith in
    let bits = sibling_bits ((2 ^ h + q) / 2 ^ i) j (way_bits h q i (1 + j) fits sum) in
    let here : place ≡ sibling ((2 ^ h + q) / 2 ^ i) = spot ∙ ap sibling before.1 in
    let low = bits_low (sibling ((2 ^ h + q) / 2 ^ i)) (1 + j) bits in
    let some = pow_pos (1 + j) in
    let high = bits_high (sibling ((2 ^ h + q) / 2 ^ i)) (1 + j) bits in
    let two : 0 < 2 = omega arith in
    let shallow : 1 + j ≤ h = omega arith in
    let most : 2 ^ (1 + j) ≤ 2 ^ h = pow-le-pow_right two shallow in
    let inside : place < length nodes = omega (arith, here, high, most, all.size) in
    let value : x ≡ node_at key i (sibling ((2 ^ h + q) / 2 ^ i)) =
    read ∙ get_or_default nodes place x [] inside ∙ ap (λ (p : ℕ). slice_index_or nodes p []) here
    ∙ all.values i (1 + j) (sibling ((2 ^ h + q) / 2 ^ i)) sum bits (omega (arith, low, some)) in
    (rw (pushed, before.0, value, more) refl, ap (λ (n : ℕ). n / 2) before.1 ∙ shr-shr (2 ^ h + q) i 1)
