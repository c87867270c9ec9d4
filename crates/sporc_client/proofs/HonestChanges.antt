-- A change that a client made is read as it was sealed, and its keys open.
use Rattle.std.proofs.Common.{◌≡◌, ℕ, zero, suc, ◌+◌, ◌^◌, ◌<◌, Bool, true, false, cond, List, [], ◌∷◌, length, map, refl, ap, sym, ◌∙◌, subst, arith, Option, None, Some, IfSome, Ok}
use Rattle.sporc_client.proofs.Common.{Contains, find, is_some, unwrap_or, ◌==◌, ◌||◌, get, All, AllByRecursion, list_any, and_from, eqb-true, bytes_eq-Decides, first_of, unless, Contains-first}
use Rattle.sporc_client.proofs.Common.{Contains-rest, length-mask_from, ChangeFault, Device, Member, Roster, after_change, change_fault_of, member_at, numbers_of, removes, ChangeBody, Wrap}
use Rattle.sporc_client.proofs.Common.{IsChangeBody, IsWrap, Keys, Sealing, body_unless, least_unpaired, wraps_sealed, wrap_opened, bad_change, names, roster_checks, is_new_key, new_key_checks}
use Rattle.sporc_client.proofs.Common.{first_sealed, new_key_of, commitment_of, new_opens, previous_opens, wraps_name}
use Rattle.sporc_epoch.specs.Sealing.{body_sealed, change_sealed}
use Rattle.sporc_head.specs.declared.refusal.Refusal.TheVariants.{NoKey, WrongKey, WrongWraps}
use Rattle.sporc_line.proofs.NextEntry.{find_any, wraps_any}
use Rattle.sporc_client.proofs.TypedHistories.{IsSmallMember}

-- ---- the sizes of what is sealed

-- the numbers of members are small, by their places
pub numbers_small : (members : List Member) → AllByRecursion IsSmallMember members → All (λ n. n < 2 ^ 16) (numbers_of members)
numbers_small [] all k d within = absurd (omega (arith, within))
numbers_small (m ∷ members) all zero d within = all.0
numbers_small (m ∷ members) all (suc k) d within = numbers_small members all.1 k d (omega (arith, within))

-- the new key that an entry shows
pub new_key_size : (version : ℕ) (pairs : Keys) (stream : ℕ) (o : Option ChangeBody) → IfSome o (IsChangeBody version) → length (new_key_of pairs stream o) ≡ 32
new_key_size version pairs stream None is = refl
new_key_size version pairs stream (Some body) is = of_wraps body.wraps is.wraps
  where
    of_wraps : (ws : List Wrap) → AllByRecursion IsWrap ws → length (first_sealed pairs stream ws) ≡ 32
    of_wraps [] all = refl
    of_wraps (w ∷ ws) all = length-mask_from (unwrap_or (get pairs w.member) []) stream 0 w.sealed ∙ all.0.sealed

-- ---- the checks of a sealed change

pub sealed_change_of : (s : Sealing) (pairs : Keys) → least_unpaired pairs s.members ≡ None → change_sealed s pairs ≡ Ok (body_sealed s pairs)
unfolding change_sealed
sealed_change_of s pairs none = ap (body_unless (body_sealed s pairs)) none

pub roster_fine : (roster : Roster) (s : Sealing) (pairs : Keys) → change_fault_of roster s.change ≡ None → s.members ≡ numbers_of (after_change roster s.change).members → least_unpaired pairs s.members ≡ None
    → first_of (roster_checks roster (Some (body_sealed s pairs))) ≡ None
unfolding body_sealed
roster_fine roster s pairs none named paired =
    let ws = wraps_sealed s.stream s.new pairs s.members in
    let numbers = numbers_of (after_change roster s.change).members in
    let same : names ws numbers ≡ true = (bytes_eq-Decides (map (λ w. w.member) ws) numbers).1 (wraps_name s.stream s.new pairs s.members paired ∙ named) in
    ap (λ (o : Option ChangeFault). first_of (bad_change o ∷ unless (names ws numbers) WrongWraps ∷ [])) none
    ∙ ap (λ (t : Bool). first_of (unless t WrongWraps ∷ [])) same

in_front : (me : ℕ) (m : Member) (members : List Member) → (is_some (find (λ (m : Member). m.member == me) members) ≡ true → Contains (numbers_of members) me)
    → (here : Bool) → (m.member == me) ≡ here → is_some (cond here (Some m) (find (λ (m : Member). m.member == me) members)) ≡ true → Contains (m.member ∷ numbers_of members) me
in_front me m members rest true is h = subst (λ (n : ℕ). Contains (m.member ∷ numbers_of members) n) (eqb-true m.member me is) (Contains-first m.member (numbers_of members))
in_front me m members rest false is h = Contains-rest m.member me (numbers_of members) (rest h)

member_in : (me : ℕ) (members : List Member) → is_some (find (λ (m : Member). m.member == me) members) ≡ true → Contains (numbers_of members) me
member_in me [] h = absurd cc
member_in me (m ∷ members) h = in_front me m members (member_in me members) (m.member == me) refl h

-- where the wraps name the members after a change, a member is one that has a wrap
pub sealed_for : (roster : Roster) (s : Sealing) (pairs : Keys) (me : ℕ) → s.members ≡ numbers_of (after_change roster s.change).members → least_unpaired pairs s.members ≡ None
    → is_some (member_at (after_change roster s.change) me) ≡ list_any (λ (w : Wrap). w.member == me) (body_sealed s pairs).wraps
unfolding body_sealed
sealed_for roster s pairs me named none =
    let ws = wraps_sealed s.stream s.new pairs s.members in
    find_any me (after_change roster s.change).members
    ∙ ap (list_any (λ (n : ℕ). n == me)) (sym named ∙ sym (wraps_name s.stream s.new pairs s.members none))
    ∙ sym (wraps_any me ws)

-- a member opens the new key
pub member_opens : (roster : Roster) (s : Sealing) (pairs mine : Keys) (author me : ℕ) → s.members ≡ numbers_of (after_change roster s.change).members → least_unpaired pairs s.members ≡ None
    → is_some (member_at (after_change roster s.change) me) ≡ true → get mine author ≡ get pairs me → wrap_opened (body_sealed s pairs) author s.stream me mine ≡ Some s.new
member_opens roster s pairs mine author me named none there pair =
    let at : Contains s.members me = subst (λ (ns : List ℕ). Contains ns me) (sym named) (member_in me (after_change roster s.change).members there) in
    new_opens s pairs mine (body_sealed s pairs) author me (sealed_change_of s pairs none) at pair

-- the new key meets its commitment and opens the one before
commits : (s : Sealing) (pairs : Keys) → commitment_of s.document (s.epoch + 1) s.new ≡ (body_sealed s pairs).commitment
unfolding body_sealed
commits s pairs = refl

pub key_is_new : (s : Sealing) (pairs : Keys) → least_unpaired pairs s.members ≡ None → is_new_key s.document (s.epoch + 1) (body_sealed s pairs) (Some s.old) (Some s.new) ≡ true
key_is_new s pairs none =
    and_from _ _ ((bytes_eq-Decides _ _).1 (commits s pairs)) ((bytes_eq-Decides _ _).1 (previous_opens s pairs (body_sealed s pairs) (sealed_change_of s pairs none)))

-- so the checks of the key hold for a device that the change removes, and for one that finds the new key
pub keys_fine : (document : List ℕ) (me : Device) (epoch : ℕ) (c : ChangeBody) (old key : Option (List ℕ)) → (removes me c.change ≡ false → (is_some key ≡ true) × (is_new_key document epoch c old key ≡ true))
    → first_of (new_key_checks document me epoch c old key) ≡ None
keys_fine document me epoch c old key found = go (removes me c.change) refl
  where
    go : (removed : Bool) → removes me c.change ≡ removed → first_of (new_key_checks document me epoch c old key) ≡ None
    go true is = ap (λ (t : Bool). first_of (unless (t || is_some key) NoKey ∷ unless (t || is_new_key document epoch c old key) WrongKey ∷ [])) is
    go false is =
        let has = found is in
        ap (λ (t : Bool). first_of (unless (t || is_some key) NoKey ∷ unless (t || is_new_key document epoch c old key) WrongKey ∷ [])) is
        ∙ ap (λ (t : Bool). first_of (unless t NoKey ∷ unless (is_new_key document epoch c old key) WrongKey ∷ [])) has.0
        ∙ ap (λ (t : Bool). first_of (unless t WrongKey ∷ [])) has.1
