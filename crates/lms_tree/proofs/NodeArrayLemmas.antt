-- The array of a tree's nodes, from its leaves up.
use Rattle.std.proofs.Common.{◌≡◌, ℕ, zero, suc, ◌+◌, ◌-◌, ◌*◌, ◌/◌, ◌%◌, ◌^◌, ◌<◌, ◌≤◌, List, [], length, take, ◌++◌, set, slice_index_or, get_or-set_same, get_or-set_other, get_or-take, get_or-append-add, length-set, length-append, length-take-le, refl, ap, ◌∙◌, arith, inl, inr}
use Rattle.std.proofs.Math.Nat.{pow-le-pow_right, pow-suc, mod-lt}
use Rattle.std.proofs.lemmas.Nat.{shr-shr, shr_split, pow_pos, one_shl}
use Rattle.std.proofs.lemmas.Bool.{cases_eq}
use Rattle.std.proofs.lemmas.List.{get_or_default, get_or_append_left}
use Rattle.lms_ots.specs.Signatures.{ots_public_of}
use Rattle.lms_tree.specs.LmsType.{height_of}
use Rattle.lms_tree.specs.Nodes.{node_of, leaf_value, inner_value}
use Rattle.lms_tree.specs.LmsPrivate.{LmsPrivate, node_at}
use Rattle.lms_tree.specs.NodeArray.{HasNodes}

-- a number of j + 1 bits
pub bits_low : (r j : ℕ) → r / 2 ^ j ≡ 1 → 2 ^ j ≤ r
bits_low r j e =
    let whole = rw e at (shr_split r j) in
    omega (arith, whole)

pub bits_high : (r j : ℕ) → r / 2 ^ j ≡ 1 → r < 2 * 2 ^ j
bits_high r j e =
    let whole = rw e at (shr_split r j) in
    omega (arith, whole, mod-lt r (pow_pos j))

-- one bit more
pub bits_left : (r j : ℕ) → r / 2 ^ j ≡ 1 → 2 * r / 2 ^ (j + 1) ≡ 1
bits_left r j e =
    let sum : 1 + j ≡ j + 1 = omega arith in
    let half : 2 * r / 2 ≡ r = omega arith in
    rw (← sum, ← shr-shr (2 * r) 1 j, half) e

pub bits_right : (r j : ℕ) → r / 2 ^ j ≡ 1 → (2 * r + 1) / 2 ^ (j + 1) ≡ 1
bits_right r j e =
    let sum : 1 + j ≡ j + 1 = omega arith in
    let half : (2 * r + 1) / 2 ≡ r = omega arith in
    rw (← sum, ← shr-shr (2 * r + 1) 1 j, half) e

-- an array of leaves has the nodes from the first leaf on
pub leaves_are : (key : LmsPrivate) (nodes : List (List ℕ)) (leaves n : ℕ) → leaves ≡ 2 ^ height_of key.lms
    → (length nodes ≡ 2 * leaves)
    × ((q : ℕ) → q < n → slice_index_or nodes (leaves + q) [] ≡ leaf_value key.id (leaves + q) (ots_public_of key.ots key.id q key.seed))
    → leaves ≤ n → HasNodes key nodes (2 ^ height_of key.lms)
unfolding node_of
leaves_are key nodes leaves n all filled whole = record {
  size = rw (← all) filled.0;
  values = at_level;
}
  where
    at_level : (k j r : ℕ) → k + j ≡ height_of key.lms → r / 2 ^ j ≡ 1 → 2 ^ height_of key.lms ≤ r → slice_index_or nodes r [] ≡ node_at key k r
    at_level zero j r sum bits above =
        let high = bits_high r j bits in
        let deep : j ≡ height_of key.lms = omega arith in
        let below = rw deep at high in
        let first : r - leaves < n = omega (arith, below) in
        let place : leaves + (r - leaves) ≡ r = omega arith in
        rw (← all) (rw place at (filled.1 (r - leaves) first))
    at_level (suc k) j r sum bits above =
        let high = bits_high r j bits in
        let deeper : suc j ≤ height_of key.lms = omega arith in
        let two : 0 < 2 = omega arith in
        let more : 2 ^ suc j ≤ 2 ^ height_of key.lms = pow-le-pow_right two deeper in
        absurd (omega (arith, high, more, pow-suc 2 j))

-- an array whose back half is the leaves, as a borrow of that half leaves it
pub leaves_behind : (key : LmsPrivate) (front leaves rest : List (List ℕ)) (count size : ℕ) → count ≡ 2 ^ height_of key.lms → size ≡ 2 * count
    → length front ≡ count → length leaves ≡ count
    → ((q : ℕ) → q < count → slice_index_or leaves q [] ≡ leaf_value key.id (count + q) (ots_public_of key.ots key.id q key.seed))
    → HasNodes key (take size (front ++ leaves ++ rest)) (2 ^ height_of key.lms)
leaves_behind key front leaves rest count size all twice front_size leaves_size each =
    leaves_are key (take size (front ++ leaves ++ rest)) count count all (long, at) (omega arith)
  where
    both : length (front ++ leaves) ≡ size
    both = omega (arith, length-append front leaves)

    long : length (take size (front ++ leaves ++ rest)) ≡ 2 * count
    long = length-take-le size (front ++ leaves ++ rest) (omega (arith, both, length-append (front ++ leaves) rest)) ∙ twice

    at : (q : ℕ) → q < count → slice_index_or (take size (front ++ leaves ++ rest)) (count + q) [] ≡ leaf_value key.id (count + q) (ots_public_of key.ots key.id q key.seed)
    at q low =
        get_or-take size (front ++ leaves ++ rest) (count + q) [] (omega arith)
        ∙ get_or_append_left (front ++ leaves) rest [] (count + q) (omega (arith, both))
        ∙ rw front_size at (get_or-append-add front leaves q [])
        ∙ each q low

-- one more inner node
pub node_more : (key : LmsPrivate) (nodes : List (List ℕ)) (r : ℕ) (value : List ℕ) → 0 < r → r < 2 ^ height_of key.lms
    → HasNodes key nodes (r + 1)
    → value ≡ inner_value key.id r (slice_index_or nodes (2 * r) []) (slice_index_or nodes (2 * r + 1) [])
    → HasNodes key (set nodes r value) r
unfolding node_of
node_more key nodes r value low below before here = record {
  size = rw length-set before.size;
  values = at_level;
}
  where
    mine : (k j : ℕ) → k + j ≡ height_of key.lms → r / 2 ^ j ≡ 1 → value ≡ node_at key k r
    mine zero j sum bits =
        let least = bits_low r j bits in
        let deep : j ≡ height_of key.lms = omega arith in
        let above = rw deep at least in
        absurd (omega (arith, above))
    mine (suc k) j sum bits =
        let left = before.values k (j + 1) (2 * r) (omega arith) (bits_left r j bits) (omega arith) in
        let right = before.values k (j + 1) (2 * r + 1) (omega arith) (bits_right r j bits) (omega arith) in
        here ∙ rw (left, right) refl

    at_level : (k j i : ℕ) → k + j ≡ height_of key.lms → i / 2 ^ j ≡ 1 → r ≤ i → slice_index_or (set nodes r value) i [] ≡ node_at key k i
    at_level k j i sum bits above =
        elim (cases_eq i r) [
          | inl same ↦
              let fits : r < length nodes = omega (arith, before.size) in
              let at : r / 2 ^ j ≡ 1 = rw same at bits in
              rw (same, get_or-set_same nodes r value [] fits) (mine k j sum at)
          | inr other ↦
              rw (get_or-set_other nodes r i value [] other) (before.values k j i sum bits (omega arith))
        ]

-- what the array has at a place, whatever the default
read_at : (nodes : List (List ℕ)) (r : ℕ) (x : List ℕ) → r < length nodes → x ≡ slice_index_or nodes r x → x ≡ slice_index_or nodes r []
read_at nodes r x fits e = e ∙ get_or_default nodes r x [] fits

-- one more inner node, as the loop stores it
pub node_stored : (key : LmsPrivate) (nodes : List (List ℕ)) (leaves i : ℕ) (value left right : List ℕ) → leaves ≡ 2 ^ height_of key.lms
    → 1 ≤ i → i < leaves → HasNodes key nodes (leaves + 1 - i)
    → left ≡ slice_index_or nodes (2 * (leaves - i)) left → right ≡ slice_index_or nodes (2 * (leaves - i) + 1) right
    → value ≡ inner_value key.id (leaves - i) left right
    → HasNodes key (set nodes (leaves - i) value) (leaves + 1 - (i + 1))
node_stored key nodes leaves i value left right all low high before first second here =
    let size = before.size in
    let l = read_at nodes (2 * (leaves - i)) left (omega arith) first in
    let r = read_at nodes (2 * (leaves - i) + 1) right (omega arith) second in
    let was : leaves + 1 - i ≡ leaves - i + 1 = omega arith in
    let now : leaves + 1 - (i + 1) ≡ leaves - i = omega arith in
    rw now (node_more key nodes (leaves - i) value (omega arith) (omega arith) (rw was at before) (here ∙ rw (← l, ← r) refl))

-- the root
pub root_is : (key : LmsPrivate) (nodes : List (List ℕ)) (x : List ℕ) → HasNodes key nodes 1 → x ≡ slice_index_or nodes 1 x
    → x ≡ node_at key (height_of key.lms) 1
root_is key nodes x all here =
    let some = pow_pos (height_of key.lms) in
    let size = all.size in
    read_at nodes 1 x (omega arith) here ∙ all.values (height_of key.lms) 0 1 (omega arith) refl (omega arith)

-- the number of leaves, as the code computes it
pub leaves_is : (h k : ℕ) → k ≡ h → k < 64 → 1 * 2 ^ k % 2 ^ 64 ≡ 2 ^ h
leaves_is h k e fits = one_shl k 64 fits ∙ ap (λ (n : ℕ). 2 ^ n) e
