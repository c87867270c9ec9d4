-- Two lists that are compared element by element.
use Rattle.std.proofs.Common.{◌≡◌, ℕ, suc, ◌<◌, Bool, false, ◌&&◌, List, length, drop, get_or, refl, drop-cons}
use Rattle.std.specs.Cmp.Lexicographic.{pointwise}

module _ {X : Type 0} (same : X → X → Bool) where
  first_of_both : (xs ys : List X) (i : ℕ) (x y : X) → i < length xs → i < length ys → x ≡ get_or xs i x → y ≡ get_or ys i y
      → pointwise same (drop i xs) (drop i ys) ≡ (same x y && pointwise same (drop (suc i) xs) (drop (suc i) ys))
  first_of_both xs ys i x y in_x in_y is_x is_y = rw (drop-cons xs i x in_x, drop-cons ys i y in_y, ← is_x, ← is_y) refl

  pub one_more_different : (xs ys : List X) (i : ℕ) (x y : X) → i < length xs → i < length ys → x ≡ get_or xs i x → y ≡ get_or ys i y → same x y ≡ false
      → pointwise same (drop i xs) (drop i ys) ≡ false
  one_more_different xs ys i x y in_x in_y is_x is_y f = rw (first_of_both xs ys i x y in_x in_y is_x is_y, f) refl
