-- Rosters and people, and what the one keeps of the other.
use Rattle.std.proofs.Common.{◌≡◌, ℕ, suc, ◌<◌, ◌≤◌, Bool, true, false, cond, eqb, ltb, leb, List, [], ◌∷◌, ◌++◌, length, refl, ap, sym, ◌∙◌, subst, arith, map, filter, Option, None, Some, is_some}
use Rattle.std.specs.List.{cons_option, list_all, filter_map, flat_map}
use Rattle.std.proofs.lemmas.List.Folds.{list_any-append}
use Rattle.std.proofs.lemmas.Map.Views.{any-filter_same}
use Rattle.sporc_member.proofs.Common.{◌||◌, ◌&&◌, and_parts, eqb-true, false_from_ne_true, leb-true, list_any, ltb-true, option_map, Device, KeyedDevice, Member, Roster, numbers_of}
use Rattle.sporc_member.proofs.Common.{same_device, is_before, AreInOrder, IsSound, StandsBefore, has_device, has_one_of}
use Rattle.sporc_member.specs.declared.limits.TheConstants.{MAX_DEVICES, MAX_MEMBERS}
use Rattle.sporc_member.specs.declared.people.Owned.{Owned}
use Rattle.sporc_member.specs.declared.people.Person.{Person}
use Rattle.sporc_member.specs.declared.role.Role.{Role}
use Rattle.sporc_member.specs.Role.{is_admin}
use Rattle.sporc_member.specs.People.{CanRestore, ascend, ever_of, has_its_devices, keyed, live_count, live_of, member_in, owned_of, roster_of_people}
use Rattle.sporc_member.proofs.Keeping.{Above, to_increasing}
use Rattle.sporc_member.proofs.Ordered.{Precedes, before, precedes}
use Rattle.sporc_member.proofs.SameDevice.{one_same, same_one}

-- ---- the devices of one person of a roster

-- a device, and whether it is one of these
abbrev pub owned_by : List KeyedDevice → KeyedDevice → Owned
owned_by live d = record { device = d.device.number; live = has_device d.device live; key = d.key }

pub owned_same : (r : Roster) (n : ℕ) (es : List KeyedDevice)
    → map (owned_by (filter (λ d. eqb d.device.member n) r.devices)) (filter (λ d. eqb d.device.member n) es) ≡ map (owned_of r) (filter (λ d. eqb d.device.member n) es)
owned_same r n [] = refl
owned_same r n (e ∷ es) = go (eqb e.device.member n) refl (owned_same r n es)
  where
    own : List KeyedDevice
    own = filter (λ d. eqb d.device.member n) r.devices

    go : (b : Bool) → eqb e.device.member n ≡ b → map (owned_by own) (filter (λ d. eqb d.device.member n) es) ≡ map (owned_of r) (filter (λ d. eqb d.device.member n) es)
        → map (owned_by own) (cond b (e ∷ filter (λ d. eqb d.device.member n) es) (filter (λ d. eqb d.device.member n) es))
        ≡ map (owned_of r) (cond b (e ∷ filter (λ d. eqb d.device.member n) es) (filter (λ d. eqb d.device.member n) es))
    go true is more =
        let here : has_device e.device own ≡ has_device e.device r.devices =
        any-filter_same (λ l. same_device l.device e.device) (λ l. eqb l.device.member n) true (λ l same. ap (λ (d : Device). eqb d.member n) (same_one l.device e.device same) ∙ is) r.devices in
        ap (λ (b : Bool). let o : Owned = record { device = e.device.number; live = b; key = e.key } in o ∷ map (owned_by own) (filter (λ d. eqb d.device.member n) es)) here
        ∙ ap (λ (os : List Owned). owned_of r e ∷ os) more
    go false is more = more

-- ---- ascending numbers

-- all at least this
abbrev AtLeast : ℕ → List ℕ → Type 0
AtLeast low [] = Unit {0}
AtLeast low (n ∷ ns) = (low ≤ n) × AtLeast low ns

at_least_zero : (ns : List ℕ) → AtLeast 0 ns
at_least_zero [] = tt
at_least_zero (n ∷ ns) = (omega arith, at_least_zero ns)

all_above : (n : ℕ) (ns : List ℕ) → list_all (ltb n) ns ≡ true → AtLeast (suc n) ns
all_above n [] h = tt
all_above n (m ∷ ns) h =
    let p = and_parts (ltb n m) (list_all (ltb n) ns) h in
    let l = ltb-true n m p.0 in
    (omega (arith, l), all_above n ns p.1)

above_from : (low : ℕ) (ns : List ℕ) → ascend ns ≡ true → AtLeast low ns → Above low ns
above_from low [] h l = tt
above_from low (n ∷ ns) h l =
    let p = and_parts (list_all (ltb n) ns) (ascend ns) h in
    (l.0, above_from (suc n) ns p.1 (all_above n ns p.0))

pub above_ascend : (ns : List ℕ) → ascend ns ≡ true → Above 0 ns
above_ascend ns h = above_from 0 ns h (at_least_zero ns)

above_lower : (low least : ℕ) (ns : List ℕ) → least ≤ low → Above low ns → Above least ns
above_lower low least [] l h = tt
above_lower low least (n ∷ ns) l h = (omega (arith, l, h.0), h.1)

abbrev numbers : List Person → List ℕ
numbers ps = map (λ p. p.member) ps

-- ---- the members among people

members_above : (low : ℕ) (ps : List Person) → Above low (numbers ps) → Above low (numbers_of (filter_map member_in ps))
members_above low [] h = tt
members_above low (p ∷ ps) h = go p.role refl (members_above (suc p.member) ps h.1)
  where
    go : (o : Option Role) → p.role ≡ o → Above (suc p.member) (numbers_of (filter_map member_in ps)) → Above low (numbers_of (filter_map member_in (p ∷ ps)))
    go None is more = rw is (above_lower (suc p.member) low (numbers_of (filter_map member_in ps)) (let l = h.0 in omega (arith, l)) more)
    go (Some role) is more = rw is (h.0, more)

members_among : (n : ℕ) (ps : List Person) → list_any (λ m. eqb m n) (numbers_of (filter_map member_in ps)) ≡ true → list_any (λ m. eqb m n) (numbers ps) ≡ true
members_among n [] h = h
members_among n (p ∷ ps) h = go p.role (eqb p.member n) refl (members_among n ps) h
  where
    rest : List Member
    rest = filter_map member_in ps

    go : (o : Option Role) (b : Bool) → eqb p.member n ≡ b → (list_any (λ m. eqb m n) (numbers_of rest) ≡ true → list_any (λ m. eqb m n) (numbers ps) ≡ true)
        → list_any (λ m. eqb m n) (numbers_of (cons_option (option_map (λ role. let m : Member = record { member = p.member; role = role } in m) o) rest)) ≡ true → (b || list_any (λ m. eqb m n) (numbers ps)) ≡ true
    go o true e more h = refl
    go None false e more h = more h
    go (Some role) false e more h = more (ap (λ (b : Bool). b || list_any (λ m. eqb m n) (numbers_of rest)) (sym e) ∙ h)

-- ---- their devices, in order

stands_owned : (d : Device) (m : ℕ) (os : List Owned) → d.member < m → StandsBefore d (map (keyed m) os)
stands_owned d m [] l = tt
stands_owned d m (o ∷ os) l =
    let here : Device = record { member = m; number = o.device } in
    (before d here (record { members = omega (arith, l); numbers = λ e. absurd (omega (arith, l, e)) }), stands_owned d m os l)

stands_append : (d : Device) (xs ys : List KeyedDevice) → StandsBefore d xs → StandsBefore d ys → StandsBefore d (xs ++ ys)
stands_append d [] ys h k = k
stands_append d (x ∷ xs) ys h k = (h.0, stands_append d xs ys h.1 k)

stands_ever : (d : Device) (low : ℕ) (ps : List Person) → d.member < low → Above low (numbers ps) → StandsBefore d (flat_map ever_of ps)
stands_ever d low [] l h = tt
stands_ever d low (p ∷ ps) l h =
    let here : d.member < p.member = let k = h.0 in omega (arith, l, k) in
    stands_append d (ever_of p) (flat_map ever_of ps) (stands_owned d p.member p.devices here) (stands_ever d (suc p.member) ps (omega (arith, here)) h.1)

stands_same : (m n low : ℕ) (os : List Owned) → n < low → Above low (map (λ o. o.device) os) → StandsBefore (record { member = m; number = n }) (map (keyed m) os)
stands_same m n low [] l h = tt
stands_same m n low (o ∷ os) l h =
    let k = h.0 in (
      before (record { member = m; number = n }) (record { member = m; number = o.device }) (record { members = omega arith; numbers = λ _. omega (arith, l, k) }),
      stands_same m n (suc o.device) os (omega (arith, l, k)) h.1,
    )

-- those of one, before those of later ones
in_order_owned : (m low : ℕ) (os : List Owned) (ds : List KeyedDevice) → Above low (map (λ o. o.device) os) → ((n : ℕ) → StandsBefore (record { member = m; number = n }) ds) → AreInOrder ds
    → AreInOrder (map (keyed m) os ++ ds)
in_order_owned m low [] ds h stands order = order
in_order_owned m low (o ∷ os) ds h stands order = (
  stands_append (record { member = m; number = o.device }) (map (keyed m) os) ds (stands_same m o.device (suc o.device) os (omega arith) h.1) (stands o.device),
  in_order_owned m (suc o.device) os ds h.1 stands order,
)

pub in_order_ever : (low : ℕ) (ps : List Person) → Above low (numbers ps) → list_all (λ p. ascend (map (λ o. o.device) p.devices)) ps ≡ true → AreInOrder (flat_map ever_of ps)
in_order_ever low [] h all = tt
in_order_ever low (p ∷ ps) h all =
    let a = and_parts (ascend (map (λ o. o.device) p.devices)) (list_all (λ p. ascend (map (λ o. o.device) p.devices)) ps) all in
    in_order_owned p.member 0 p.devices (flat_map ever_of ps) (above_ascend (map (λ o. o.device) p.devices) a.0)
    (λ n. stands_ever (record { member = p.member; number = n }) (suc p.member) ps (omega arith) h.1) (in_order_ever (suc p.member) ps h.1 a.1)

-- each is of a person
of_owned : (n m : ℕ) (os : List Owned) → has_one_of n (map (keyed m) os) ≡ true → eqb m n ≡ true
of_owned n m [] h = absurd cc
of_owned n m (o ∷ os) h = go (eqb m n) refl (of_owned n m os) h
  where
    go : (b : Bool) → eqb m n ≡ b → (has_one_of n (map (keyed m) os) ≡ true → eqb m n ≡ true) → (b || has_one_of n (map (keyed m) os)) ≡ true → eqb m n ≡ true
    go true e more h = e
    go false e more h = more h

-- of two lists, one has it
one_of : (a b : Bool) → (a || b) ≡ true → (c d : Bool) → (a ≡ true → c ≡ true) → (b ≡ true → d ≡ true) → (c || d) ≡ true
one_of a b h true d f g = refl
one_of true b h false d f g = absurd (let e : false ≡ true = f refl in cc)
one_of false b h false d f g = g h

pub ever_among : (n : ℕ) (ps : List Person) → has_one_of n (flat_map ever_of ps) ≡ true → list_any (λ m. eqb m n) (numbers ps) ≡ true
ever_among n [] h = h
ever_among n (p ∷ ps) h =
    one_of (has_one_of n (ever_of p)) (has_one_of n (flat_map ever_of ps)) (sym (list_any-append (λ d. eqb d.device.member n) (ever_of p) (flat_map ever_of ps)) ∙ h)
    (eqb p.member n) (list_any (λ m. eqb m n) (numbers ps)) (of_owned n p.member p.devices) (ever_among n ps)

-- a live one is of a member
none_live : (p : Person) → p.role ≡ None → has_its_devices p ≡ true → filter (λ o. o.live) p.devices ≡ []
none_live p is h = go (filter (λ o. o.live) p.devices) (ap (λ (o : Option Role). cond (is_some o) (leb 1 (live_count p) && leb (live_count p) MAX_DEVICES) (eqb (live_count p) 0)) (sym is) ∙ h)
  where
    go : (os : List Owned) → eqb (length os) 0 ≡ true → os ≡ []
    go [] h = refl
    go (o ∷ os) h = absurd (let e = eqb-true (length (o ∷ os)) 0 h in omega (arith, e))

live_among : (n : ℕ) (ps : List Person) → list_all has_its_devices ps ≡ true → has_one_of n (flat_map live_of ps) ≡ true → list_any (λ m. eqb m n) (numbers_of (filter_map member_in ps)) ≡ true
live_among n [] all h = h
live_among n (p ∷ ps) all h =
    let a = and_parts (has_its_devices p) (list_all has_its_devices ps) all in
    go p.role refl a.0 (live_among n ps a.1)
  where
    parts : (has_one_of n (live_of p) || has_one_of n (flat_map live_of ps)) ≡ true
    parts = sym (list_any-append (λ d. eqb d.device.member n) (live_of p) (flat_map live_of ps)) ∙ h

    go : (o : Option Role) → p.role ≡ o → has_its_devices p ≡ true → (has_one_of n (flat_map live_of ps) ≡ true → list_any (λ m. eqb m n) (numbers_of (filter_map member_in ps)) ≡ true)
        → list_any (λ m. eqb m n) (numbers_of (filter_map member_in (p ∷ ps))) ≡ true
    go None is has more = rw is (more (ap (λ (os : List Owned). has_one_of n (map (keyed p.member) os) || has_one_of n (flat_map live_of ps)) (sym (none_live p is has)) ∙ parts))
    go (Some role) is has more = rw is (one_of (has_one_of n (live_of p)) (has_one_of n (flat_map live_of ps)) parts
        (eqb p.member n) (list_any (λ m. eqb m n) (numbers_of (filter_map member_in ps))) (of_owned n p.member (filter (λ o. o.live) p.devices)) more)

-- ---- the live ones among those ever used

-- those whose flag is set
abbrev pub flagged : List Bool → List KeyedDevice → List KeyedDevice
flagged [] ds = []
flagged (b ∷ bs) [] = []
flagged (b ∷ bs) (d ∷ ds) = cond b (d ∷ flagged bs ds) (flagged bs ds)

abbrev pub flags_of : Person → List Bool
flags_of p = map (λ o. o.live) p.devices

flagged_owned : (m : ℕ) (os : List Owned) (bs : List Bool) (ds : List KeyedDevice) → flagged (map (λ o. o.live) os ++ bs) (map (keyed m) os ++ ds) ≡ map (keyed m) (filter (λ o. o.live) os) ++ flagged bs ds
flagged_owned m [] bs ds = refl
flagged_owned m (o ∷ os) bs ds = go o.live (flagged_owned m os bs ds)
  where
    go : (b : Bool) → flagged (map (λ o. o.live) os ++ bs) (map (keyed m) os ++ ds) ≡ map (keyed m) (filter (λ o. o.live) os) ++ flagged bs ds
        → cond b (keyed m o ∷ flagged (map (λ o. o.live) os ++ bs) (map (keyed m) os ++ ds)) (flagged (map (λ o. o.live) os ++ bs) (map (keyed m) os ++ ds))
        ≡ map (keyed m) (cond b (o ∷ filter (λ o. o.live) os) (filter (λ o. o.live) os)) ++ flagged bs ds
    go true more = ap (λ (l : List KeyedDevice). keyed m o ∷ l) more
    go false more = more

pub flagged_people : (ps : List Person) → flagged (flat_map flags_of ps) (flat_map ever_of ps) ≡ flat_map live_of ps
flagged_people [] = refl
flagged_people (p ∷ ps) = flagged_owned p.member p.devices (flat_map flags_of ps) (flat_map ever_of ps) ∙ ap (λ (l : List KeyedDevice). live_of p ++ l) (flagged_people ps)

pub stands_flagged : (d : Device) (bs : List Bool) (ds : List KeyedDevice) → StandsBefore d ds → StandsBefore d (flagged bs ds)
stands_flagged d [] ds h = tt
stands_flagged d (b ∷ bs) [] h = tt
stands_flagged d (true ∷ bs) (e ∷ ds) h = (h.0, stands_flagged d bs ds h.1)
stands_flagged d (false ∷ bs) (e ∷ ds) h = stands_flagged d bs ds h.1

-- of two, one before the other, neither is the other
apart : (a b : Device) → is_before a b ≡ true → (same_device a b ≡ false) × (same_device b a ≡ false)
apart a b h =
    let p = precedes a b h in (
      false_from_ne_true (same_device a b) (λ s. let e = same_one a b s in not_itself a b p e),
      false_from_ne_true (same_device b a) (λ s. let e = same_one b a s in not_itself a b p (sym e)),
    )
  where
    not_itself : (a b : Device) → Precedes a b → a ≡ b → ⊥
    not_itself a b p e =
        let l = p.numbers (ap (λ (d : Device). d.member) e) in
        let s : a.number ≡ b.number = ap (λ (d : Device). d.number) e in
        omega (arith, l, s)

pub none_behind : (d : Device) (ds : List KeyedDevice) → StandsBefore d ds → has_device d ds ≡ false
none_behind d [] h = refl
none_behind d (e ∷ ds) h = ap (λ (b : Bool). b || has_device d ds) (apart d e.device h.0).1 ∙ none_behind d ds h.1

-- who stands in front is none of those behind
live_behind : (d : KeyedDevice) (ds es : List KeyedDevice) → StandsBefore d.device es → filter (λ e. has_device e.device (d ∷ ds)) es ≡ filter (λ e. has_device e.device ds) es
live_behind d ds [] h = refl
live_behind d ds (e ∷ es) h =
    ap (λ (b : Bool). cond (b || has_device e.device ds) (e ∷ filter (λ e. has_device e.device (d ∷ ds)) es) (filter (λ e. has_device e.device (d ∷ ds)) es)) (apart d.device e.device h.0).0
    ∙ ap (λ (l : List KeyedDevice). cond (has_device e.device ds) (e ∷ l) l) (live_behind d ds es h.1)

pub live_behind_map : (d : KeyedDevice) (ds es : List KeyedDevice) → StandsBefore d.device es → map (λ e. has_device e.device (d ∷ ds)) es ≡ map (λ e. has_device e.device ds) es
live_behind_map d ds [] h = refl
live_behind_map d ds (e ∷ es) h =
    ap (λ (b : Bool). (b || has_device e.device ds) ∷ map (λ e. has_device e.device (d ∷ ds)) es) (apart d.device e.device h.0).0
    ∙ ap (λ (l : List Bool). has_device e.device ds ∷ l) (live_behind_map d ds es h.1)

live_none : (es : List KeyedDevice) → filter (λ e. has_device e.device []) es ≡ []
live_none [] = refl
live_none (e ∷ es) = live_none es

live_flagged : (bs : List Bool) (ds : List KeyedDevice) → AreInOrder ds → flagged bs ds ≡ filter (λ e. has_device e.device (flagged bs ds)) ds
live_flagged [] ds h = sym (live_none ds)
live_flagged (b ∷ bs) [] h = refl
live_flagged (true ∷ bs) (d ∷ ds) h =
    let rest = flagged bs ds in
    sym (ap (λ (b : Bool). cond (b || has_device d.device rest) (d ∷ filter (λ e. has_device e.device (d ∷ rest)) ds) (filter (λ e. has_device e.device (d ∷ rest)) ds)) (one_same d.device)
    ∙ ap (λ (l : List KeyedDevice). d ∷ l) (live_behind d rest ds h.0 ∙ sym (live_flagged bs ds h.1)))
live_flagged (false ∷ bs) (d ∷ ds) h =
    let rest = flagged bs ds in
    sym (ap (λ (b : Bool). cond b (d ∷ filter (λ e. has_device e.device rest) ds) (filter (λ e. has_device e.device rest) ds)) (none_behind d.device rest (stands_flagged d.device bs ds h.0))
    ∙ sym (live_flagged bs ds h.1))

-- ---- what the condition says

pub record Restorable (ps : List Person) : Type 0 where
  pub numbers : Above 0 (map (λ p. p.member) ps)
  pub devices : list_all (λ p. ascend (map (λ o. o.device) p.devices)) ps ≡ true
  pub room : length (filter_map member_in ps) ≤ MAX_MEMBERS
  pub live : list_all has_its_devices ps ≡ true

pub restorable : (ps : List Person) → CanRestore ps → Restorable ps
restorable ps h =
    let a = and_parts (ascend (map (λ p. p.member) ps)) _ h in
    let b = and_parts (list_all (λ p. ascend (map (λ o. o.device) p.devices)) ps) _ a.1 in
    let c = and_parts (leb (length (filter_map member_in ps)) MAX_MEMBERS) _ b.1 in
    let d = and_parts (list_any (λ m. is_admin m.role) (filter_map member_in ps)) _ c.1 in
    record { numbers = above_ascend (map (λ p. p.member) ps) a.0; devices = b.0; room = leb-true (length (filter_map member_in ps)) MAX_MEMBERS c.0; live = d.1 }

pub sound_people : (ps : List Person) (upgraded : Bool) → CanRestore ps → IsSound (roster_of_people ps upgraded)
sound_people ps upgraded h =
    let k = restorable ps h in
    let order = in_order_ever 0 ps k.numbers k.devices in
    record {
      ascending = to_increasing 0 (numbers_of (filter_map member_in ps)) (members_above 0 ps k.numbers);
      room = k.room;
      used = to_increasing 0 (numbers ps) k.numbers;
      among = λ n h. members_among n ps h;
      ever = order;
      owned = λ n h. ever_among n ps h;
      live = subst (λ (ds : List KeyedDevice). ds ≡ filter (λ e. has_device e.device ds) (flat_map ever_of ps)) (flagged_people ps) (live_flagged (flat_map flags_of ps) (flat_map ever_of ps) order);
      belong = λ n h. live_among n ps k.live h;
    }
