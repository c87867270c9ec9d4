-- What people keep of a roster, and a roster of people.
use Rattle.std.proofs.Common.{◌≡◌, ℕ, suc, ◌<◌, Bool, true, false, cond, eqb, List, [], ◌∷◌, ◌++◌, length, refl, ap, sym, ◌∙◌, arith, map, filter, Option, None, Some, length-append}
use Rattle.std.specs.List.{cons_option, filter_map, flat_map}
use Rattle.sporc_member.proofs.Common.{◌||◌, eq-eqb, eqb-true, false_from_ne_true, find, length-map, list_any, option_map, KeyedDevice, Member, numbers_of}
use Rattle.sporc_member.proofs.Common.{AreInOrder, has_device, has_one_of}
use Rattle.sporc_member.specs.declared.people.Owned.{Owned}
use Rattle.sporc_member.specs.declared.people.Person.{Person}
use Rattle.sporc_member.specs.declared.role.Role.{Role}
use Rattle.sporc_member.specs.People.{CanRestore, ever_of, keyed, live_of, member_in, people_of, roster_of_people}
use Rattle.sporc_member.proofs.Belonging.{none_of}
use Rattle.sporc_member.proofs.Keeping.{Above}
use Rattle.sporc_member.proofs.PeopleOf.{ever_among, flagged, flagged_people, flags_of, in_order_ever, live_behind_map, none_behind, restorable, stands_flagged}
use Rattle.sporc_member.proofs.SameDevice.{one_same}

-- ---- ascending numbers

-- a number among those above another is above it
pub above_less : (n k : ℕ) (ns : List ℕ) → Above (suc n) ns → list_any (λ m. eqb m k) ns ≡ true → n < k
above_less n k [] h is = absurd cc
above_less n k (m ∷ ns) h is = go (eqb m k) refl (above_less m k ns h.1) is
  where
    go : (b : Bool) → eqb m k ≡ b → (list_any (λ m. eqb m k) ns ≡ true → m < k) → (b || list_any (λ m. eqb m k) ns) ≡ true → n < k
    go true e more is = let s = eqb-true m k e in let l = h.0 in omega (arith, s, l)
    go false e more is = let g = more is in let l = h.0 in omega (arith, g, l)

pub not_above : (n low : ℕ) (ns : List ℕ) → n < low → Above low ns → list_any (λ m. eqb m n) ns ≡ false
not_above n low [] l h = refl
not_above n low (m ∷ ns) l h =
    let k = h.0 in
    ap (λ (b : Bool). b || list_any (λ m. eqb m n) ns) (false_from_ne_true (eqb m n) (λ e. let s = eqb-true m n e in omega (arith, s, l, k)))
    ∙ not_above n (suc m) ns (omega (arith, l, k)) h.1

pub apart_from : (m n : ℕ) → m < n → eqb m n ≡ false
apart_from m n l = false_from_ne_true (eqb m n) (λ e. let s = eqb-true m n e in omega (arith, s, l))

-- one of these that is not the first is one of the others
pub of_others : (n k : ℕ) (ns : List ℕ) → eqb n k ≡ false → list_any (λ m. eqb m k) (n ∷ ns) ≡ true → list_any (λ m. eqb m k) ns ≡ true
of_others n k ns ne h = ap (λ (b : Bool). b || list_any (λ m. eqb m k) ns) (sym ne) ∙ h

-- ---- people, of their roster

abbrev owned_if : (KeyedDevice → Bool) → KeyedDevice → Owned
owned_if f d = record { device = d.device.number; live = f d; key = d.key }

abbrev person_by : (KeyedDevice → Bool) → List Member → List KeyedDevice → ℕ → Person
person_by f ms es n = record {
  member = n;
  role = option_map (λ m. m.role) (find (λ m. eqb m.member n) ms);
  devices = map (owned_if f) (filter (λ d. eqb d.device.member n) es);
}

abbrev joined : ℕ → Option Role → List Member → List Member
joined n o ms = cons_option (option_map (λ role. let m : Member = record { member = n; role = role } in m) o) ms

abbrev first_or : {X : Type 0} → X → List X → X
first_or d [] = d
first_or d (x ∷ xs) = x

abbrev behind_first : {X : Type 0} → List X → List X
behind_first [] = []
behind_first (x ∷ xs) = xs

first_is : {X : Type 0} (x y : X) (xs ys : List X) → x ∷ xs ≡ y ∷ ys → (x ≡ y) × (xs ≡ ys)
first_is x y xs ys h = (ap (first_or x) h, ap behind_first h)

flags_split : (f : KeyedDevice → Bool) (m : ℕ) (os : List Owned) (es : List KeyedDevice) (bs : List Bool) → map f (map (keyed m) os ++ es) ≡ map (λ o. o.live) os ++ bs
    → (map (owned_if f) (map (keyed m) os) ≡ os) × (map f es ≡ bs)
flags_split f m [] es bs h = (refl, h)
flags_split f m (o ∷ os) es bs h =
    let a = first_is (f (keyed m o)) o.live (map f (map (keyed m) os ++ es)) (map (λ o. o.live) os ++ bs) h in
    let more = flags_split f m os es bs a.1 in (
      ap (λ (b : Bool). let x : Owned = record { device = o.device; live = b; key = o.key } in x ∷ map (owned_if f) (map (keyed m) os)) a.0
          ∙ ap (λ (l : List Owned). o ∷ l) more.0,
      more.1,
    )

own_here : (m : ℕ) (os : List Owned) (es : List KeyedDevice) → filter (λ d. eqb d.device.member m) es ≡ [] → filter (λ d. eqb d.device.member m) (map (keyed m) os ++ es) ≡ map (keyed m) os
own_here m [] es h = h
own_here m (o ∷ os) es h =
    ap (λ (b : Bool). cond b (keyed m o ∷ filter (λ d. eqb d.device.member m) (map (keyed m) os ++ es)) (filter (λ d. eqb d.device.member m) (map (keyed m) os ++ es))) (eq-eqb m m refl)
    ∙ ap (λ (l : List KeyedDevice). keyed m o ∷ l) (own_here m os es h)

own_skipped : (m n : ℕ) (os : List Owned) (es : List KeyedDevice) → eqb m n ≡ false → filter (λ d. eqb d.device.member n) (map (keyed m) os ++ es) ≡ filter (λ d. eqb d.device.member n) es
own_skipped m n [] es ne = refl
own_skipped m n (o ∷ os) es ne =
    ap (λ (b : Bool). cond b (keyed m o ∷ filter (λ d. eqb d.device.member n) (map (keyed m) os ++ es)) (filter (λ d. eqb d.device.member n) (map (keyed m) os ++ es))) ne
    ∙ own_skipped m n os es ne

found_skipped : (m n : ℕ) (o : Option Role) (ms : List Member) → eqb m n ≡ false → find (λ x. eqb x.member n) (joined m o ms) ≡ find (λ x. eqb x.member n) ms
found_skipped m n None ms ne = refl
found_skipped m n (Some role) ms ne = ap (λ (b : Bool). cond b (Some (let x : Member = record { member = m; role = role } in x)) (find (λ x. eqb x.member n) ms)) ne

found_here : (m : ℕ) (o : Option Role) (ms : List Member) → find (λ x. eqb x.member m) ms ≡ None → option_map (λ x. x.role) (find (λ x. eqb x.member m) (joined m o ms)) ≡ o
found_here m None ms none = ap (option_map (λ x. x.role)) none
found_here m (Some role) ms none =
    ap (λ (b : Bool). option_map (λ x. x.role) (cond b (Some (let x : Member = record { member = m; role = role } in x)) (find (λ x. eqb x.member m) ms))) (eq-eqb m m refl)

pub none_found : (n : ℕ) (ms : List Member) → list_any (λ m. eqb m n) (numbers_of ms) ≡ false → find (λ x. eqb x.member n) ms ≡ None
none_found n [] h = refl
none_found n (m ∷ ms) h = go (eqb m.member n) (none_found n ms) h
  where
    go : (b : Bool) → (list_any (λ m. eqb m n) (numbers_of ms) ≡ false → find (λ x. eqb x.member n) ms ≡ None) → (b || list_any (λ m. eqb m n) (numbers_of ms)) ≡ false → cond b (Some m) (find (λ x. eqb x.member n) ms) ≡ None
    go true more h = absurd cc
    go false more h = more h

-- a number behind the first person's is told by the others alone
person_later : (f : KeyedDevice → Bool) (p : Person) (ms : List Member) (es : List KeyedDevice) (n : ℕ) → p.member < n
    → person_by f (cons_option (member_in p) ms) (ever_of p ++ es) n ≡ person_by f ms es n
person_later f p ms es n l =
    let ne = apart_from p.member n l in
    ap (λ (o : Option Member). let x : Person = record { member = n; role = option_map (λ m. m.role) o; devices = map (owned_if f) (filter (λ d. eqb d.device.member n) (ever_of p ++ es)) } in x) (found_skipped p.member n p.role ms ne)
    ∙ ap (λ (ds : List KeyedDevice). let x : Person = record { member = n; role = option_map (λ m. m.role) (find (λ x. eqb x.member n) ms); devices = map (owned_if f) ds } in x) (own_skipped p.member n p.devices es ne)

people_later : (f : KeyedDevice → Bool) (p : Person) (ms : List Member) (es : List KeyedDevice) (low : ℕ) (ns : List ℕ) → p.member < low → Above low ns
    → map (person_by f (cons_option (member_in p) ms) (ever_of p ++ es)) ns ≡ map (person_by f ms es) ns
people_later f p ms es low [] l h = refl
people_later f p ms es low (n ∷ ns) l h =
    let here : p.member < n = let k = h.0 in omega (arith, l, k) in
    ap (λ (x : Person). x ∷ map (person_by f (cons_option (member_in p) ms) (ever_of p ++ es)) ns) (person_later f p ms es n here)
    ∙ ap (λ (l : List Person). person_by f ms es n ∷ l) (people_later f p ms es (suc n) ns (omega (arith, here)) h.1)

members_not : (n low : ℕ) (ps : List Person) → n < low → Above low (map (λ p. p.member) ps) → find (λ x. eqb x.member n) (filter_map member_in ps) ≡ None
members_not n low [] l h = refl
members_not n low (p ∷ ps) l h =
    let here : n < p.member = let k = h.0 in omega (arith, l, k) in
    found_skipped p.member n p.role (filter_map member_in ps) (false_from_ne_true (eqb p.member n) (λ e. let s = eqb-true p.member n e in omega (arith, s, here)))
    ∙ members_not n (suc p.member) ps (omega (arith, here)) h.1

devices_not : (n low : ℕ) (ps : List Person) → n < low → Above low (map (λ p. p.member) ps) → filter (λ d. eqb d.device.member n) (flat_map ever_of ps) ≡ []
devices_not n low ps l h = none_of n (flat_map ever_of ps) (false_from_ne_true (has_one_of n (flat_map ever_of ps)) (λ is.
    let among = ever_among n ps is in
    let none = not_above n low (map (λ p. p.member) ps) l h in
    let both : true ≡ false = sym among ∙ none in
    cc))

people_back : (f : KeyedDevice → Bool) (low : ℕ) (ps : List Person) → Above low (map (λ p. p.member) ps) → map f (flat_map ever_of ps) ≡ flat_map flags_of ps
    → map (person_by f (filter_map member_in ps) (flat_map ever_of ps)) (map (λ p. p.member) ps) ≡ ps
people_back f low [] h flags = refl
people_back f low (p ∷ ps) h flags =
    let ms = filter_map member_in ps in
    let es = flat_map ever_of ps in
    let a = flags_split f p.member p.devices es (flat_map flags_of ps) flags in
    let role : option_map (λ m. m.role) (find (λ m. eqb m.member p.member) (cons_option (member_in p) ms)) ≡ p.role =
    found_here p.member p.role ms (members_not p.member (suc p.member) ps (omega arith) h.1) in
    let devices : map (owned_if f) (filter (λ d. eqb d.device.member p.member) (ever_of p ++ es)) ≡ p.devices =
    ap (map (owned_if f)) (own_here p.member p.devices es (devices_not p.member (suc p.member) ps (omega arith) h.1)) ∙ a.0 in
    let later = people_later f p ms es (suc p.member) (map (λ p. p.member) ps) (omega arith) h.1 in
    let here : person_by f (cons_option (member_in p) ms) (ever_of p ++ es) p.member ≡ p =
    ap (λ (o : Option Role). let x : Person = record { member = p.member; role = o; devices = map (owned_if f) (filter (λ d. eqb d.device.member p.member) (ever_of p ++ es)) } in x) role
    ∙ ap (λ (os : List Owned). let x : Person = record { member = p.member; role = p.role; devices = os } in x) devices in
    ap (λ (x : Person). x ∷ map (person_by f (cons_option (member_in p) ms) (ever_of p ++ es)) (map (λ p. p.member) ps)) here
    ∙ ap (λ (l : List Person). p ∷ l) (later ∙ people_back f (suc p.member) ps h.1 a.1)

-- each is live as it was told
flags_are : (bs : List Bool) (ds : List KeyedDevice) → length bs ≡ length ds → AreInOrder ds → map (λ e. has_device e.device (flagged bs ds)) ds ≡ bs
flags_are [] [] e h = refl
flags_are [] (d ∷ ds) e h = absurd (omega (arith, e))
flags_are (b ∷ bs) [] e h = absurd (omega (arith, e))
flags_are (true ∷ bs) (d ∷ ds) e h =
    let rest = flagged bs ds in
    ap (λ (b : Bool). (b || has_device d.device rest) ∷ map (λ e. has_device e.device (d ∷ rest)) ds) (one_same d.device)
    ∙ ap (λ (l : List Bool). true ∷ l) (live_behind_map d rest ds h.0 ∙ flags_are bs ds (omega (arith, e)) h.1)
flags_are (false ∷ bs) (d ∷ ds) e h =
    let rest = flagged bs ds in
    ap (λ (b : Bool). b ∷ map (λ e. has_device e.device rest) ds) (none_behind d.device rest (stands_flagged d.device bs ds h.0))
    ∙ ap (λ (l : List Bool). false ∷ l) (flags_are bs ds (omega (arith, e)) h.1)

as_many : (ps : List Person) → length (flat_map flags_of ps) ≡ length (flat_map ever_of ps)
as_many [] = refl
as_many (p ∷ ps) = omega (
  arith,
  length-append (flags_of p) (flat_map flags_of ps),
  length-append (ever_of p) (flat_map ever_of ps),
  length-map p.devices (λ (o : Owned). o.live),
  length-map p.devices (keyed p.member),
  as_many ps,
)

pub people_restored : (ps : List Person) (upgraded : Bool) → CanRestore ps → people_of (roster_of_people ps upgraded) ≡ ps
people_restored ps upgraded h =
    let k = restorable ps h in
    let order = in_order_ever 0 ps k.numbers k.devices in
    people_back (λ d. has_device d.device (flat_map live_of ps)) 0 ps k.numbers
    (ap (λ (ds : List KeyedDevice). map (λ d. has_device d.device ds) (flat_map ever_of ps)) (sym (flagged_people ps))
    ∙ flags_are (flat_map flags_of ps) (flat_map ever_of ps) (as_many ps) order)
