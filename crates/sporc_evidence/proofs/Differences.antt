-- The first place at which two lists of values differ, as a search and as a fact.
use Rattle.std.proofs.Common.{◌≡◌, ◌≢◌, ℕ, zero, suc, ◌+◌, ◌<◌, ◌≤◌, Bool, true, false, cond, ltb, List, [], ◌∷◌, length, slice_get, slice_index_or, Option, None, Some, refl, sym, ap, subst, ◌∙◌, arith}
use Rattle.std.specs.Prelude.{option_map}
use Rattle.std.specs.Str.{bytes_eq}
use Rattle.std.proofs.lemmas.Bool.{ltb-false, ltb-true}
use Rattle.std.proofs.lemmas.Slice.Eq.{bytes_eq-Decides}
use Rattle.std.proofs.lemmas.Option.{slice_get-get_or, slice_get_within}
use Rattle.sporc_evidence.specs.declared.judging.Difference.{Difference}
use Rattle.sporc_evidence.specs.Judging.{IsFirstDifference, first_difference, further}

same_is : (x y : List ℕ) → x ≡ y → bytes_eq x y ≡ true
same_is x y e = (bytes_eq-Decides x y).1 e

not_same : (x y : List ℕ) → x ≢ y → bytes_eq x y ≡ false
not_same x y ne = go (bytes_eq x y) refl
  where
    go : (t : Bool) → bytes_eq x y ≡ t → bytes_eq x y ≡ false
    go true e = absurd (ne ((bytes_eq-Decides x y).0 e))
    go false e = e

some_is : {X : Type 0} (x y : X) → Some x ≡ Some y → x ≡ y
some_is x y e = cc

-- ---- from the fact to the search

differs_at : (at : ℕ) (left right : List ℕ) (a b : List (List ℕ)) → ((i : ℕ) → i < at → slice_get a i ≡ slice_get b i) → slice_get a at ≡ Some left → slice_get b at ≡ Some right → left ≢ right
    → first_difference a b ≡ Some (record { at = at; left = left; right = right })
unfolding first_difference
differs_at at left right [] b before in_a in_b ne = absurd (omega (arith, slice_get_within [] at left in_a))
differs_at at left right (x ∷ xs) [] before in_a in_b ne = absurd (omega (arith, slice_get_within [] at right in_b))
differs_at zero left right (x ∷ xs) (y ∷ ys) before in_a in_b ne =
    let l : x ≡ left = some_is x left in_a in
    let r : y ≡ right = some_is y right in_b in
    rw (l, r, not_same left right ne) refl
differs_at (suc at) left right (x ∷ xs) (y ∷ ys) before in_a in_b ne =
    let rest = differs_at at left right xs ys (λ i h. before (suc i) (omega (arith, h))) in_a in_b ne in
    let next : Some (further (record { at = at; left = left; right = right })) ≡ Some (record { at = suc at; left = left; right = right }) = ap (λ (n : ℕ). Some (record { at = n; left = left; right = right })) (omega arith) in
    rw (same_is x y (some_is x y (before 0 (omega arith))), rest) next

pub differs : (a b : List (List ℕ)) (d : Difference) → IsFirstDifference a b d → first_difference a b ≡ Some d
differs a b d is = differs_at d.at d.left d.right a b is.before is.in_a is.in_b is.differ

pub no_difference : (a b : List (List ℕ)) → ((i : ℕ) → i < length a → i < length b → slice_get a i ≡ slice_get b i) → first_difference a b ≡ None
unfolding first_difference
no_difference [] b same = refl
no_difference (x ∷ xs) [] same = refl
no_difference (x ∷ xs) (y ∷ ys) same =
    let rest : first_difference xs ys ≡ None = no_difference xs ys (λ i h k. same (suc i) (omega (arith, h)) (omega (arith, k))) in
    rw (same_is x y (some_is x y (same 0 (omega arith) (omega arith))), rest) refl

-- ---- from the search to the fact

module _ (x y : List ℕ) (xs ys : List (List ℕ)) where
  found_further : x ≡ y → (r : Difference) → IsFirstDifference xs ys r → IsFirstDifference (x ∷ xs) (y ∷ ys) (further r)
  found_further eq r f =
      let n : suc r.at ≡ r.at + 1 = omega arith in
      record {
        before = before;
        in_a = subst (λ (k : ℕ). slice_get (x ∷ xs) k ≡ Some r.left) n f.in_a;
        in_b = subst (λ (k : ℕ). slice_get (y ∷ ys) k ≡ Some r.right) n f.in_b;
        differ = f.differ;
      }
    where
      before : (k : ℕ) → k < r.at + 1 → slice_get (x ∷ xs) k ≡ slice_get (y ∷ ys) k
      before zero lt = ap (λ (v : List ℕ). Some v) eq
      before (suc k) lt = f.before k (omega (arith, lt))

  found_here : x ≢ y → IsFirstDifference (x ∷ xs) (y ∷ ys) (record { at = 0; left = x; right = y })
  found_here ne = record { before = λ i lt. absurd (omega (arith, lt)); in_a = refl; in_b = refl; differ = ne }

  found_by : (d : Difference) (rest : Option Difference) (t : Bool) → bytes_eq x y ≡ t → ((r : Difference) → rest ≡ Some r → IsFirstDifference xs ys r)
      → cond t (option_map further rest) (Some (record { at = 0; left = x; right = y })) ≡ Some d → IsFirstDifference (x ∷ xs) (y ∷ ys) d
  found_by d None true t h e = absurd cc
  found_by d (Some r) true t h e = subst (IsFirstDifference (x ∷ xs) (y ∷ ys)) (some_is (further r) d e) (found_further ((bytes_eq-Decides x y).0 t) r (h r refl))
  found_by d rest false t h e =
      let here : Difference = record { at = 0; left = x; right = y } in
      let ne : x ≢ y = λ eq. let u : bytes_eq x y ≡ true = same_is x y eq in absurd cc in
      subst (IsFirstDifference (x ∷ xs) (y ∷ ys)) (some_is here d e) (found_here ne)

  agree_by : (rest : Option Difference) (t : Bool) → bytes_eq x y ≡ t → (rest ≡ None → (i : ℕ) → i < length xs → i < length ys → slice_get xs i ≡ slice_get ys i)
      → cond t (option_map further rest) (Some (record { at = 0; left = x; right = y })) ≡ None → (i : ℕ) → i < suc (length xs) → i < suc (length ys) → slice_get (x ∷ xs) i ≡ slice_get (y ∷ ys) i
  agree_by None true t h e zero in_a in_b = ap (λ (v : List ℕ). Some v) ((bytes_eq-Decides x y).0 t)
  agree_by None true t h e (suc i) in_a in_b = h refl i (omega (arith, in_a)) (omega (arith, in_b))
  agree_by (Some d) true t h e i in_a in_b = absurd cc
  agree_by rest false t h e i in_a in_b = absurd cc

pub found : (a b : List (List ℕ)) (d : Difference) → first_difference a b ≡ Some d → IsFirstDifference a b d
unfolding first_difference
found [] b d e = absurd cc
found (x ∷ xs) [] d e = absurd cc
found (x ∷ xs) (y ∷ ys) d e = found_by x y xs ys d (first_difference xs ys) (bytes_eq x y) refl (λ r is. found xs ys r is) e

pub agree : (a b : List (List ℕ)) → first_difference a b ≡ None → (i : ℕ) → i < length a → i < length b → slice_get a i ≡ slice_get b i
unfolding first_difference
agree [] b e i in_a in_b = absurd (omega (arith, in_a))
agree (x ∷ xs) [] e i in_a in_b = absurd (omega (arith, in_b))
agree (x ∷ xs) (y ∷ ys) e i in_a in_b = agree_by x y xs ys (first_difference xs ys) (bytes_eq x y) refl (λ is k h g. agree xs ys is k h g) e i in_a in_b

-- ---- where it stands

-- lists that begin with one value differ behind it
pub behind_first : (a b : List (List ℕ)) (d : Difference) → slice_get a 0 ≡ slice_get b 0 → IsFirstDifference a b d → 1 ≤ d.at
behind_first a b d one is = go d.at refl
  where
    go : (n : ℕ) → d.at ≡ n → 1 ≤ n
    go zero e =
        let left = subst (λ (k : ℕ). slice_get a k ≡ Some d.left) e is.in_a in
        let right = subst (λ (k : ℕ). slice_get b k ≡ Some d.right) e is.in_b in
        absurd (is.differ (some_is d.left d.right (sym left ∙ one ∙ right)))
    go (suc n) e = omega arith

-- ---- as a search goes on

-- one value of each list at a place
at_place : (l : List (List ℕ)) (at : ℕ) → at < length l → slice_get l at ≡ Some (slice_index_or l at [])
at_place l at h = slice_get-get_or l at [] h

-- two lists that agree up to a place, and part there
pub parts_here : (a b : List (List ℕ)) (at : ℕ) → at < length a → at < length b → ((i : ℕ) → i < at → slice_get a i ≡ slice_get b i) → bytes_eq (slice_index_or a at []) (slice_index_or b at []) ≡ false
    → IsFirstDifference a b (record { at = at; left = slice_index_or a at []; right = slice_index_or b at [] })
parts_here a b at in_a in_b before apart = record {
  before = before;
  in_a = at_place a at in_a;
  in_b = at_place b at in_b;
  differ = λ e. let yes : bytes_eq (slice_index_or a at []) (slice_index_or b at []) ≡ true = same_is (slice_index_or a at []) (slice_index_or b at []) e in absurd cc;
}

-- and those that agree there too
pub agree_so_far : (a b : List (List ℕ)) (at : ℕ) → at < length a → at < length b → ((i : ℕ) → i < at → slice_get a i ≡ slice_get b i) → bytes_eq (slice_index_or a at []) (slice_index_or b at []) ≡ true → (i : ℕ) → i < at + 1 → slice_get a i ≡ slice_get b i
agree_so_far a b at in_a in_b before same i lt = go (ltb i at) refl
  where
    here : slice_get a at ≡ slice_get b at
    here = at_place a at in_a ∙ ap (λ (v : List ℕ). Some v) ((bytes_eq-Decides (slice_index_or a at []) (slice_index_or b at [])).0 same) ∙ sym (at_place b at in_b)

    go : (t : Bool) → ltb i at ≡ t → slice_get a i ≡ slice_get b i
    go true t = before i (ltb-true i at t)
    go false t =
        let n : at ≡ i = omega (arith, lt, ltb-false i at t) in
        subst (λ (k : ℕ). slice_get a k ≡ slice_get b k) n here
