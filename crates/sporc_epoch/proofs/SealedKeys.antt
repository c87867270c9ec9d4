-- What is sealed opens.
use Rattle.std.proofs.Common.{◌≡◌, ◌≢◌, ℕ, zero, suc, ◌+◌, ◌==◌, min, Bool, true, false, cond, List, [], ◌∷◌, map, filter, Some, None, is_none, refl, ap, subst, ◌∙◌, inl, inr, ◌⊎◌, arith}
use Rattle.sporc_epoch.proofs.Common.{Option, Ok, fold, option_map, option_and_then, Contains, cons_option, unsigned_Decides, get, mask_of, mask_from-mask_from, Wrap, Keys, previous_stream, Sealing}
use Rattle.sporc_epoch.proofs.Common.{wraps_sealed, least_unpaired, ChangeBody, wrap_for}
use Rattle.sporc_epoch.specs.Sealing.{body_sealed, lesser, body_unless, change_sealed}
use Rattle.sporc_epoch.specs.Wraps.{opened_under, wrap_opened, previous_opened}

-- ---- each member has a pairwise key

-- a member of a list is its first or among the others
first_or_later : (m : ℕ) (ms : List ℕ) (x : ℕ) → Contains (m ∷ ms) x → (m ≡ x) ⊎ Contains ms x
first_or_later m ms x (zero, lt, at) = inl at
first_or_later m ms x (suc k, lt, at) = inr (k, omega (arith, lt), at)

-- where there is a least number, one is found
found : (k : ℕ) (ns : List ℕ) → fold lesser (Some k) ns ≢ None
found k [] h = cc
found k (n ∷ ns) h = found (min k n) ns h

-- the first member has a pairwise key, and so have the others
pub first_paired : (pairs : Keys) (m : ℕ) (ms : List ℕ) → least_unpaired pairs (m ∷ ms) ≡ None → (is_none (get pairs m) ≡ false) × (least_unpaired pairs ms ≡ None)
first_paired pairs m ms h = by (is_none (get pairs m)) refl h
  where
    by : (b : Bool) → is_none (get pairs m) ≡ b
        → fold lesser None (cond b (m ∷ filter (λ n. is_none (get pairs n)) ms) (filter (λ n. is_none (get pairs n)) ms)) ≡ None
        → (is_none (get pairs m) ≡ false) × (least_unpaired pairs ms ≡ None)
    by true is h = absurd (found m (filter (λ n. is_none (get pairs n)) ms) h)
    by false is h = (is, h)

-- a member has a pairwise key
paired : (pairs : Keys) (ms : List ℕ) (m : ℕ) → least_unpaired pairs ms ≡ None → Contains ms m → is_none (get pairs m) ≡ false
paired pairs [] m h (k, lt, at) = absurd (omega (arith, lt))
paired pairs (x ∷ xs) m h c =
    let both = first_paired pairs x xs h in
    elim (first_or_later x xs m c) [
      | inl same ↦ subst (λ m. is_none (get pairs m) ≡ false) same both.0
      | inr later ↦ paired pairs xs m both.1 later
    ]

-- ---- the wraps

abbrev wrap_with : ℕ → List ℕ → ℕ → List ℕ → Wrap
wrap_with stream key member pair = record { member = member; sealed = mask_of pair stream key }

-- one member more, whose wrap is the first if it is the one that is sought
wrap_first : (stream : ℕ) (key : List ℕ) (member : ℕ) (pair : List ℕ) (x : ℕ) (p : List ℕ) (rest : List Wrap) (b : Bool) → (x == member) ≡ b
    → (x ≡ member → p ≡ pair) → (x ≢ member → wrap_for member rest ≡ Some (wrap_with stream key member pair))
    → cond b (Some (wrap_with stream key x p)) (wrap_for member rest) ≡ Some (wrap_with stream key member pair)
wrap_first stream key member pair x p rest true e here later =
    let same : x ≡ member = (unsigned_Decides x member).0 e in
    let keys : p ≡ pair = here same in
    cc
wrap_first stream key member pair x p rest false e here later = later (λ same. let yes = (unsigned_Decides x member).1 same in cc)

-- the first wrap for a member is sealed under the pairwise key with it
first_wrap : (stream : ℕ) (key : List ℕ) (pairs : Keys) (member : ℕ) (pair : List ℕ) (ms : List ℕ) → get pairs member ≡ Some pair → Contains ms member
    → wrap_for member (wraps_sealed stream key pairs ms) ≡ Some (wrap_with stream key member pair)
first_wrap stream key pairs member pair [] is (k, lt, at) = absurd (omega (arith, lt))
first_wrap stream key pairs member pair (x ∷ xs) is c =
    by (get pairs x) (λ same. ap (get pairs) same ∙ is)
    (λ apart. elim (first_or_later x xs member c) [
      | inl same ↦ absurd (apart same)
      | inr rest ↦ first_wrap stream key pairs member pair xs is rest
    ])
  where
    by : (o : Option (List ℕ)) → (x ≡ member → o ≡ Some pair)
        → (x ≢ member → wrap_for member (wraps_sealed stream key pairs xs) ≡ Some (wrap_with stream key member pair))
        → wrap_for member (cons_option (option_map (wrap_with stream key x) o) (wraps_sealed stream key pairs xs)) ≡ Some (wrap_with stream key member pair)
    by None here later = later (λ same. let e : None ≡ Some pair = here same in cc)
    by (Some p) here later =
        wrap_first stream key member pair x p (wraps_sealed stream key pairs xs) (x == member) refl (λ same. let e : Some p ≡ Some pair = here same in cc) later

-- the wraps name the members
pub wraps_name : (stream : ℕ) (key : List ℕ) (pairs : Keys) (ms : List ℕ) → least_unpaired pairs ms ≡ None → map (λ w. w.member) (wraps_sealed stream key pairs ms) ≡ ms
wraps_name stream key pairs [] h = refl
wraps_name stream key pairs (x ∷ xs) h =
    let both = first_paired pairs x xs h in
    by (get pairs x) both.0 (wraps_name stream key pairs xs both.1)
  where
    by : (o : Option (List ℕ)) → is_none o ≡ false → map (λ w. w.member) (wraps_sealed stream key pairs xs) ≡ xs
        → map (λ w. w.member) (cons_option (option_map (wrap_with stream key x) o) (wraps_sealed stream key pairs xs)) ≡ x ∷ xs
    by None none h = absurd cc
    by (Some p) none h = ap (λ (ns : List ℕ). x ∷ ns) h

-- ---- a sealed change

-- a change that was sealed has the body of the definition, and no member is without a pairwise key
pub sealed : (s : Sealing) (pairs : Keys) (body : ChangeBody) → change_sealed s pairs ≡ Ok body → (body ≡ body_sealed s pairs) × (least_unpaired pairs s.members ≡ None)
unfolding change_sealed
sealed s pairs body h = by (least_unpaired pairs s.members) refl h
  where
    by : (o : Option ℕ) → least_unpaired pairs s.members ≡ o → body_unless (body_sealed s pairs) o ≡ Ok body → (body ≡ body_sealed s pairs) × (least_unpaired pairs s.members ≡ None)
    by None is h = (cc, is)
    by (Some m) is h = absurd cc

-- a wrap opens under the key that sealed it
pub new_opens : (s : Sealing) (pairs mine : Keys) (body : ChangeBody) (author member : ℕ) → change_sealed s pairs ≡ Ok body → Contains s.members member
    → get mine author ≡ get pairs member → wrap_opened body author s.stream member mine ≡ Some s.new
unfolding wrap_opened body_sealed
new_opens s pairs mine body author member h c same =
    let is = sealed s pairs body h in
    by (get pairs member) refl is.0 (paired pairs s.members member is.1 c)
  where
    by : (o : Option (List ℕ)) → get pairs member ≡ o → body ≡ body_sealed s pairs → is_none o ≡ false
        → option_and_then (opened_under s.stream (get mine author)) (wrap_for member body.wraps) ≡ Some s.new
    by None at is none = absurd cc
    by (Some pair) at is none =
        let first : wrap_for member body.wraps ≡ Some (wrap_with s.stream s.new member pair) =
        ap (λ (b : ChangeBody). wrap_for member b.wraps) is ∙ first_wrap s.stream s.new pairs member pair s.members at c in
        ap (option_and_then (opened_under s.stream (get mine author))) first
        ∙ ap (λ o. opened_under s.stream o (wrap_with s.stream s.new member pair)) (same ∙ at)
        ∙ ap Some (mask_from-mask_from pair s.stream 0 s.new)

-- the new key opens the one before
pub previous_opens : (s : Sealing) (pairs : Keys) (body : ChangeBody) → change_sealed s pairs ≡ Ok body → previous_opened body (s.epoch + 1) s.new ≡ s.old
unfolding previous_opened body_sealed
previous_opens s pairs body h =
    ap (λ (b : ChangeBody). mask_of s.new (previous_stream (s.epoch + 1)) b.previous) (sealed s pairs body h).0
    ∙ mask_from-mask_from s.new (previous_stream (s.epoch + 1)) 0 s.old

-- the wraps name the members
pub members_named : (s : Sealing) (pairs : Keys) (body : ChangeBody) → change_sealed s pairs ≡ Ok body → map (λ w. w.member) body.wraps ≡ s.members
unfolding body_sealed
members_named s pairs body h =
    let is = sealed s pairs body h in
    ap (λ (b : ChangeBody). map (λ w. w.member) b.wraps) is.0 ∙ wraps_name s.stream s.new pairs s.members is.1
