-- The document that a first message names, by its place and by the orders that are held.
use Rattle.std.proofs.Common.{◌≡◌, ◌∙◌, ◌||◌, ℕ, zero, suc, ◌+◌, Bool, true, false, List, [], ◌∷◌, map, reverse, find, Option, Some, None, Result, Ok, Err, slice_get, cond, refl, ap, sym, subst, arith, bytes_eq}
use Rattle.sporc_docs.proofs.Common.{position_from, list_any, reverse-append, bytes_eq-Decides, ToServer, Hello, OrderModel, SessionEnd, Visit, is_of, list_of, AreApart, bound_by, named_by}
use Rattle.sporc_docs.proofs.Common.{IsUnboundEnd, IsBound, same_Some}
use Rattle.std.proofs.lemmas.Bool.{or_right}
use Rattle.std.proofs.lemmas.List.Sorted.{IsPermutation-reverse, list_any-IsPermutation}
use Rattle.sporc_docs.proofs.Places.{none_parts, none_more, apart_more, position_found}
use Rattle.sporc_docs.proofs.Columns.{document_at}

-- the documents of orders
abbrev pub documents_of : List OrderModel → List (List ℕ)
documents_of os = map (λ o. o.genesis.document) os

-- ---- what is held, whatever the orders' order

-- the order of a list is nothing to a test of any
any_reverse : (f : OrderModel → Bool) (os : List OrderModel) → list_any f os ≡ list_any f (reverse os)
any_reverse f os = list_any-IsPermutation f os (reverse os) (IsPermutation-reverse os)

none_reverse : (d : List ℕ) (os : List OrderModel) → list_of os d ≡ None → list_of (reverse os) d ≡ None
none_reverse d [] h = refl
none_reverse d (o ∷ os) h =
    let parts = none_parts (is_of d o) o (find (is_of d) os) h in
    subst (λ (l : List OrderModel). list_of l d ≡ None) (sym (reverse-append (o ∷ []) os)) (none_more d (reverse os) o (none_reverse d os parts.1) parts.0)

pub apart_reverse : (os : List OrderModel) → AreApart os → AreApart (reverse os)
apart_reverse [] are = tt
apart_reverse (o ∷ os) are =
    subst AreApart (sym (reverse-append (o ∷ []) os)) (apart_more (reverse os) o (apart_reverse os are.1) (none_reverse o.genesis.document os are.0))

-- ---- places

any_at : (d : List ℕ) (os : List OrderModel) (j : ℕ) (x : List ℕ) → slice_get (documents_of os) j ≡ Some x → bytes_eq d x ≡ true → list_any (is_of d) os ≡ true
any_at d [] j x at is = absurd cc
any_at d (o ∷ os) zero x at is = ap (λ (b : Bool). b || list_any (is_of d) os) (ap (bytes_eq d) (same_Some o.genesis.document x at) ∙ is)
any_at d (o ∷ os) (suc j) x at is = or_right (is_of d o) (list_any (is_of d) os) (any_at d os j x at is)

not_found : (d : List ℕ) (i : ℕ) (os : List OrderModel) → position_from (bytes_eq d) i (documents_of os) ≡ None → list_any (is_of d) os ≡ false
not_found d i [] h = refl
not_found d i (o ∷ os) h =
    let parts = none_parts (bytes_eq d o.genesis.document) i (position_from (bytes_eq d) (i + 1) (documents_of os)) h in
    ap (λ (b : Bool). b || list_any (is_of d) os) parts.0 ∙ not_found d (i + 1) os parts.1

-- a document that is not held has no place
held : (os : List OrderModel) {d : List ℕ} → list_of os d ≡ None → (j : ℕ) → slice_get (documents_of os) j ≡ Some d → ⊥
held [] none j at = cc
held (o ∷ os) {d} none zero at =
    let is : is_of d o ≡ true = (bytes_eq-Decides d o.genesis.document).1 (sym (same_Some o.genesis.document d at)) in
    let is_not : is_of d o ≡ false = (none_parts (is_of d o) o (find (is_of d) os) none).0 in
    cc
held (o ∷ os) {d} none (suc j) at = held os (none_parts (is_of d o) o (find (is_of d) os) none).1 j at

-- two places of one document are one
pub one_place : (os : List OrderModel) → AreApart os → (d : List ℕ) (i j : ℕ) → slice_get (documents_of os) i ≡ Some d → slice_get (documents_of os) j ≡ Some d → j ≡ i
one_place [] are d i j at_i at_j = absurd cc
one_place (o ∷ os) are d zero zero at_i at_j = refl
one_place (o ∷ os) are d zero (suc j) at_i at_j =
    absurd (held os (subst (λ (x : List ℕ). list_of os x ≡ None) (same_Some o.genesis.document d at_i) are.0) j at_j)
one_place (o ∷ os) are d (suc i) zero at_i at_j =
    absurd (held os (subst (λ (x : List ℕ). list_of os x ≡ None) (same_Some o.genesis.document d at_j) are.0) i at_i)
one_place (o ∷ os) are d (suc i) (suc j) at_i at_j = ap suc (one_place os are.1 d i j at_i at_j)

-- ---- what a session is bound to

module _ (orders : List OrderModel) where
  -- the document of a place that is named
  pub bound_some : (m : ToServer) (place : ℕ) → named_by (documents_of (reverse orders)) m ≡ Some place
      → (d : List ℕ) × (slice_get (documents_of (reverse orders)) place ≡ Some d) × (bound_by orders m ≡ Some d)
  bound_some (Hello d member) place h =
      let found = position_found (bytes_eq d) 0 (documents_of (reverse orders)) place h in
      let from = found.1 in
      let at : place ≡ found.0 = omega (arith, from) in
      let same : found.2 ≡ d = sym ((bytes_eq-Decides d found.2).0 found.4) in
      let any = any_reverse (is_of d) orders ∙ any_at d (reverse orders) found.0 found.2 found.3 found.4 in
      (d, subst (λ (j : ℕ). slice_get (documents_of (reverse orders)) j ≡ Some d) (sym at) (found.3 ∙ ap Some same), ap (λ (b : Bool). cond b (Some d) None) any)
  bound_some m place h = absurd cc

  pub bound_none : (m : ToServer) → named_by (documents_of (reverse orders)) m ≡ None → bound_by orders m ≡ None
  bound_none (Hello d member) h = ap (λ (b : Bool). cond b (Some d) None) (any_reverse (is_of d) orders ∙ not_found d 0 (reverse orders) h)
  bound_none m h = refl

  unbound_end : (r : Result ToServer SessionEnd) (end : SessionEnd) → IsUnboundEnd (named_by (documents_of (reverse orders))) r end
      → IsUnboundEnd (bound_by orders) r end
  unbound_end (Ok m) end h = (bound_none m h.0, h.1)
  unbound_end (Err why) end h = h

  pub bound_to : (v : Visit) (place : Option ℕ) → IsBound (named_by (documents_of (reverse orders))) v place
      → IsBound (bound_by orders) v (document_at (documents_of (reverse orders)) place)
  bound_to v None h =
      let u = h.3 in
      (h.0, h.1, h.2, record { first_is = u.first_is; end_is = unbound_end h.2 v.end u.end_is; written_is = u.written_is; as_shut = u.as_shut; shuts = u.shuts })
  bound_to v (Some place) h =
      let found = bound_some h.2 place h.3.names in
      subst (λ (d : Option (List ℕ)). IsBound (bound_by orders) v d) (sym found.1)
      (h.0, h.1, h.2, record { first_is = h.3.first_is; names = found.2 })
