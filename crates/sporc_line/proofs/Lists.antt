-- Lists that grow at their end.
use Rattle.std.proofs.Common.{◌≡◌, ℕ, suc, zero, ◌<◌, List, [], ◌∷◌, ◌++◌, length, take, map, refl, ap, arith, ◌⊎◌, inl, inr, Some}
use Rattle.sporc_line.proofs.Common.{slice_get, take_at}

-- the element at a place, before the end and at it
pub slice_get_push : {X : Type 0} (xs : List X) (y z : X) (i : ℕ) → slice_get (xs ++ y ∷ []) i ≡ Some z
    → ((i < length xs) × (slice_get xs i ≡ Some z)) ⊎ ((i ≡ length xs) × (y ≡ z))
slice_get_push [] y z zero h = inr (refl, cc)
slice_get_push [] y z (suc i) h = absurd cc
slice_get_push (x ∷ xs) y z zero h = inl (omega arith, h)
slice_get_push (x ∷ xs) y z (suc i) h =
    elim (slice_get_push xs y z i h) [ inl p ↦ inl (omega (arith, p.0), p.1) | inr p ↦ inr (ap suc p.0, p.1) ]

pub slice_get_last : {X : Type 0} (xs : List X) (y : X) → slice_get (xs ++ y ∷ []) (length xs) ≡ Some y
slice_get_last [] y = refl
slice_get_last (x ∷ xs) y = slice_get_last xs y

-- the element at a place of the list's first n
pub slice_get-take : {X : Type 0} (xs : List X) (n i : ℕ) (z : X) → slice_get (take n xs) i ≡ Some z → (i < n) × (slice_get xs i ≡ Some z)
slice_get-take (x ∷ xs) (suc n) zero z h = (omega arith, h)
slice_get-take (x ∷ xs) (suc n) (suc i) z h = let p = slice_get-take xs n i z h in (omega (arith, p.0), p.1)
slice_get-take xs zero i z h = absurd cc
slice_get-take [] (suc n) i z h = absurd cc

-- one element more
pub take_slice_get_more : {X : Type 0} (xs : List X) (i : ℕ) (z : X) → slice_get xs i ≡ Some z → take (suc i) xs ≡ take i xs ++ z ∷ []
take_slice_get_more [] i z h = absurd cc
take_slice_get_more (x ∷ xs) zero z h = let e : x ≡ z = cc in ap (λ y. y ∷ []) e
take_slice_get_more (x ∷ xs) (suc i) z h = ap (λ ys. x ∷ ys) (take_slice_get_more xs i z h)

pub take_front : {X : Type 0} (xs : List X) (y : X) → take (length xs) (xs ++ y ∷ []) ≡ xs
take_front xs y = take_at xs (y ∷ []) (length xs) refl

pub map_same : {X Y : Type 0} (f h : X → Y) (xs : List X) → ((i : ℕ) (x : X) → slice_get xs i ≡ Some x → f x ≡ h x) → map f xs ≡ map h xs
map_same f h [] e = refl
map_same f h (x ∷ xs) e = let a = e 0 x refl in let b = map_same f h xs (λ i x at. e (suc i) x at) in cc
