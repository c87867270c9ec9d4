-- What holds of lists, and of what is found in them.
use Rattle.std.proofs.Common.{◌≡◌, Bool, true, false, cond, List, [], ◌∷◌, ◌++◌, Option, None, Some, refl, subst}
use Rattle.std.specs.Prelude.{find}
use Rattle.std.specs.List.{AllByRecursion}
use Rattle.sporc_base.specs.FirstFault.{first_of}

-- what a search finds passes its test
pub found_passes : {X : Type 0} (p : X → Bool) (xs : List X) (x : X) → find p xs ≡ Some x → p x ≡ true
found_passes {X} p [] x e = absurd cc
found_passes {X} p (y ∷ ys) x e = go (p y) refl (found_passes p ys x) e
  where
    go : (b : Bool) → p y ≡ b → (find p ys ≡ Some x → p x ≡ true) → cond b (Some y) (find p ys) ≡ Some x → p x ≡ true
    go true is later e = let y-is : y ≡ x = cc in let P : X → Type 0 = λ z. p z ≡ true in subst P y-is is
    go false is later e = later e

-- what holds of the items of both lists holds of all
pub all_append : {A : Type 0} (P : A → Type 0) (xs ys : List A) → AllByRecursion P xs → AllByRecursion P ys → AllByRecursion P (xs ++ ys)
all_append P [] ys p q = q
all_append P (x ∷ xs) ys p q = (p.0, all_append P xs ys p.1 q)

-- no check of both lists fails
pub both_pass : {F : Type 0} (xs ys : List (Option F)) → first_of (xs ++ ys) ≡ None → (first_of xs ≡ None) × (first_of ys ≡ None)
both_pass [] ys h = (refl, h)
both_pass (None ∷ xs) ys h = both_pass xs ys h
both_pass (Some f ∷ xs) ys h = absurd cc
