-- Places of documents, and lists with one more.
use Rattle.std.proofs.Common.{slice_get, ◌≡◌, ◌∙◌, ℕ, ◌+◌, ◌<◌, Bool, true, false, List, [], ◌∷◌, ◌++◌, Option, Some, None, refl, ap, sym, subst, cond, find, length, length-append, arith, inl, inr, suc, is_ok, is_some, if◌then◌else◌, ◌≤◌, Result, Ok, Err}
use Rattle.sporc_docs.proofs.Common.{position_from, OrderModel, is_of, list_of, AreApart, same_Some}
use Rattle.std.specs.Option.{option_or}
use Rattle.std.proofs.lemmas.Bool.{cases_Bool}
use Rattle.std.proofs.lemmas.Cmp.{nat_list_eq_equiv}
use Rattle.std.proofs.lemmas.List.Folds.{find-append}

-- what is found nowhere is not the first, nor any behind it
pub none_parts : {A : Type 0} (b : Bool) (x : A) (rest : Option A) → cond b (Some x) rest ≡ None → (b ≡ false) × (rest ≡ None)
none_parts true x rest none = absurd cc
none_parts false x rest none = (refl, none)

-- a document has a place exactly if a list is its own
pub none_held : (d : List ℕ) (i : ℕ) (os : List OrderModel) → position_from (is_of d) i os ≡ None → list_of os d ≡ None
none_held d i [] h = refl
none_held d i (o ∷ os) h =
    let parts = none_parts (is_of d o) i (position_from (is_of d) (i + 1) os) h in
    ap (λ (b : Bool). cond b (Some o) (find (is_of d) os)) parts.0 ∙ none_held d (i + 1) os parts.1

pub none_more : (d : List ℕ) (os : List OrderModel) (o : OrderModel) → list_of os d ≡ None → is_of d o ≡ false → list_of (os ++ o ∷ []) d ≡ None
none_more d os o h is_not =
    find-append (is_of d) os (o ∷ []) ∙ ap (λ (f : Option OrderModel). option_or f (cond (is_of d o) (Some o) None)) h ∙ ap (λ (b : Bool). cond b (Some o) None) is_not

-- a list more of another document
pub apart_more : (os : List OrderModel) (o : OrderModel) → AreApart os → list_of os o.genesis.document ≡ None → AreApart (os ++ o ∷ [])
apart_more [] o are none = (refl, tt)
apart_more (x ∷ os) o are none =
    let both = none_parts (is_of o.genesis.document x) x (find (is_of o.genesis.document) os) none in
    (none_more x.genesis.document os o are.0 (nat_list_eq_equiv.symm x.genesis.document o.genesis.document ∙ both.0), apart_more os o are.1 both.1)

-- documents stay apart, and few enough, as one is pushed
pub kept_apart : {A E : Type 0} (r : Result A E) (os os' : List OrderModel) (o : OrderModel) (n : ℕ) → os' ≡ (if is_ok r then os ++ o ∷ [] else os) → length os < n
    → AreApart os → position_from (is_of o.genesis.document) 0 os ≡ None → (length os' ≤ n) × AreApart os'
kept_apart (Ok x) os os' o n is room are none =
    subst (λ (l : List OrderModel). (length l ≤ n) × AreApart l) (sym is)
    (let size = length-append os (o ∷ []) in omega (arith, size, room), apart_more os o are (none_held o.genesis.document 0 os none))
kept_apart (Err e) os os' o n is room are none =
    subst (λ (l : List OrderModel). (length l ≤ n) × AreApart l) (sym is) (omega (arith, room), are)

-- a place that is found has an item that is looked for
pub position_found : {A : Type 0} (f : A → Bool) (i : ℕ) (xs : List A) (place : ℕ) → position_from f i xs ≡ Some place
    → (j : ℕ) × (place ≡ i + j) × (x : A) × (slice_get xs j ≡ Some x) × (f x ≡ true)
position_found f i [] place h = absurd cc
position_found {A} f i (x ∷ xs) place h = elim (cases_Bool (f x)) [
  | inl is ↦ let here = same_Some i place (rw is at h) in (0, omega (arith, here), x, refl, is)
  | inr is ↦ let m = position_found f (i + 1) xs place (rw is at h) in let at : place ≡ i + 1 + m.0 = m.1 in (suc m.0, omega (arith, at), m.2, m.3, m.4)
]

pub is_none : (x : Option ℕ) → is_some x ≡ false → x ≡ None
is_none None h = refl
is_none (Some i) h = absurd cc
