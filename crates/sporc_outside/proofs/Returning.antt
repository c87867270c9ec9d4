-- Links that are handed back.
use Rattle.std.proofs.Common.{◌≡◌, ◌∙◌, List, [], ◌∷◌, ◌++◌, Option, Some, None, ap, sym, subst, append_assoc, append-nil}
use Rattle.std.proofs.lemmas.List.Elements.{All-append, All-nil, All-cons}
use Rattle.sporc_outside.specs.Nets.{AreShutBehind}
use Rattle.sporc_outside.specs.Streams.{StreamTold}
use Rattle.sporc_outside.specs.Told.{AppendsItem, IfBoth, IsTrueIfTold}

-- what holds of anything and itself holds of what stayed
pub both_same : {A : Type 0} (a b : Option A) (P : A → A → Type 0) → b ≡ a → ((x : A) → P x x) → IfBoth a b P
both_same None b P same h = tt
both_same {A} (Some x) b P same h = subst (λ (o : Option A). IfBoth (Some x) o P) (sym same) (h x)

-- one step, and then another
pub both_then : {A B C : Type 0} (a : Option A) (b : Option B) (c : Option C) (P : A → B → Type 0) (Q : B → C → Type 0) (R : A → C → Type 0)
    → ((x : A) (y : B) (z : C) → P x y → Q y z → R x z) → IfBoth a b P → IfBoth b c Q → IfBoth a c R
both_then None b c P Q R h p q = tt
both_then (Some x) None c P Q R h p q = absurd p
both_then (Some x) (Some y) None P Q R h p q = absurd q
both_then (Some x) (Some y) (Some z) P Q R h p q = h x y z p q

abbrev Shut : StreamTold → Type 0
Shut l = IsTrueIfTold l.is_shut

-- none was handed back
pub shut_none : (old new : Option (List StreamTold)) → new ≡ old → AreShutBehind old new
shut_none old new same = both_same old new _ same (λ ls. ([], sym (append-nil ls), All-nil Shut))

-- some were handed back, and then others
pub shut_then : (old mid new : Option (List StreamTold)) → AreShutBehind old mid → AreShutBehind mid new → AreShutBehind old new
shut_then old mid new = both_then old mid new _ _ _ (λ o m n before after. (
  before.0 ++ after.0,
  after.1 ∙ ap (λ (t : List StreamTold). t ++ after.0) before.1 ∙ append_assoc o before.0 after.0,
  All-append Shut before.0 after.0 before.2 after.2,
))

-- one more was handed back
pub shut_more : (old mid new : Option (List StreamTold)) (l : StreamTold) → AreShutBehind old mid → AppendsItem mid new l → IsTrueIfTold l.is_shut
    → AreShutBehind old new
shut_more old mid new l before more shut = both_then old mid new _ _ _ (λ o m n gone is. (
  gone.0 ++ l ∷ [],
  is ∙ ap (λ (t : List StreamTold). t ++ l ∷ []) gone.1 ∙ append_assoc o gone.0 (l ∷ []),
  All-append Shut gone.0 (l ∷ []) gone.2 (All-cons Shut l [] shut (All-nil Shut)),
)) before more

-- one was handed back
pub shut_one : (old mid new : Option (List StreamTold)) (l : StreamTold) → mid ≡ old → AppendsItem mid new l → IsTrueIfTold l.is_shut → AreShutBehind old new
shut_one old mid new l same more shut = shut_more old mid new l (shut_none old mid same) more shut
