-- Lists that grow at their end, and what they contain.
use Rattle.std.proofs.Common.{◌≡◌, suc, List, [], ◌∷◌, ◌++◌, length, take, drop, refl, ap, sym, ◌∙◌, subst, append_assoc, arith, ◌⊎◌, inl, inr, length-append}
use Rattle.std.proofs.lemmas.List.{append-nil, take_at, drop_at}
use Rattle.std.specs.List.{Contains}

-- induction from the end
pub from_end : {X : Type 0} (P : List X → Type 0) → P [] → ((xs : List X) (x : X) → P xs → P (xs ++ x ∷ [])) → (xs : List X) → P xs
from_end {X} P none more xs = go [] xs none
  where
    go : (done rest : List X) → P done → P (done ++ rest)
    go done [] h = subst P (sym (append-nil done)) h
    go done (x ∷ rest) h = subst P (append_assoc done (x ∷ []) rest) (go (done ++ x ∷ []) rest (more done x h))

-- a list is empty, or has a last element
pub last_cases : {X : Type 0} (xs : List X) → (xs ≡ []) ⊎ ((ys : List X) × (y : X) × (xs ≡ ys ++ y ∷ []))
last_cases {X} = from_end (λ xs. (xs ≡ []) ⊎ ((ys : List X) × (y : X) × (xs ≡ ys ++ y ∷ []))) (inl refl) (λ xs x h. inr (xs, x, refl))

-- two splits of one list whose second parts are equally long
pub same_splits : {X : Type 0} (a b x y : List X) → length x ≡ length y → a ++ x ≡ b ++ y → (a ≡ b) × (x ≡ y)
same_splits a b x y l e =
    let n : length a ≡ length b = omega (arith, length-append a x, length-append b y, ap length e) in (
      sym (take_at a x (length b) n) ∙ ap (take (length b)) e ∙ take_at b y (length b) refl,
      sym (drop_at a x (length b) n) ∙ ap (drop (length b)) e ∙ drop_at b y (length b) refl,
    )

pub Contains-first : {X : Type 0} (x : X) (xs : List X) → Contains (x ∷ xs) x
Contains-first x xs = (0, omega arith, refl)

pub Contains-rest : {X : Type 0} (x y : X) (xs : List X) → Contains xs y → Contains (x ∷ xs) y
Contains-rest x y xs h = (suc h.0, omega (arith, h.1), h.2)
