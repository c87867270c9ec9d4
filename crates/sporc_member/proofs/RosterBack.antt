-- A roster is that of its people.
use Rattle.std.proofs.Common.{◌≡◌, ℕ, suc, ◌<◌, ◌≤◌, Bool, true, false, cond, eqb, not, List, [], ◌∷◌, ◌++◌, refl, ap, sym, ◌∙◌, arith, map, filter, Option, Some}
use Rattle.std.specs.List.{cons_option, filter_map, flat_map}
use Rattle.std.proofs.lemmas.Map.Views.{any-filter_same}
use Rattle.sporc_member.proofs.Common.{◌||◌, eq-eqb, eqb-true, eqb-false, false_from_ne_true, find, fold, list_any, option_map, KeyedDevice, Member, Roster, after_change, founded, numbers_of}
use Rattle.sporc_member.proofs.Common.{AreInOrder, Founder, IsSound, has_device, has_one_of}
use Rattle.sporc_member.specs.declared.change.Change.{Change}
use Rattle.sporc_member.specs.declared.people.Owned.{Owned}
use Rattle.sporc_member.specs.Histories.{IsHistory}
use Rattle.sporc_member.specs.People.{ever_of, keyed, live_of, member_in, owned_of, people_of, person_of, roster_of_people}
use Rattle.sporc_member.proofs.Gone.{sound_history}
use Rattle.sporc_member.proofs.Grouped.{AreGrouped, grouped, lower, none_here}
use Rattle.sporc_member.proofs.Keeping.{Above, any_filtered, from_increasing}
use Rattle.sporc_member.proofs.Ordered.{in_order_filter}
use Rattle.sporc_member.proofs.PeopleBack.{above_less, apart_from, none_found, not_above, of_others}
use Rattle.sporc_member.proofs.Sound.{live_in_order}

-- ---- a roster, of its people

numbers_back : (r : Roster) (ns : List ℕ) → map (λ p. p.member) (map (person_of r) ns) ≡ ns
numbers_back r [] = refl
numbers_back r (n ∷ ns) = ap (λ (l : List ℕ). n ∷ l) (numbers_back r ns)

-- a member found is of the number
found_same : (n : ℕ) (ms : List Member) → option_map (λ role. let m : Member = record { member = n; role = role } in m) (option_map (λ m. m.role) (find (λ m. eqb m.member n) ms)) ≡ find (λ m. eqb m.member n) ms
found_same n [] = refl
found_same n (m ∷ ms) = go (eqb m.member n) refl (found_same n ms)
  where
    go : (b : Bool) → eqb m.member n ≡ b → option_map (λ role. let m : Member = record { member = n; role = role } in m) (option_map (λ m. m.role) (find (λ m. eqb m.member n) ms)) ≡ find (λ m. eqb m.member n) ms
        → option_map (λ role. let m : Member = record { member = n; role = role } in m) (option_map (λ m. m.role) (cond b (Some m) (find (λ m. eqb m.member n) ms))) ≡ cond b (Some m) (find (λ m. eqb m.member n) ms)
    go true e more = ap (λ (k : ℕ). Some (let x : Member = record { member = k; role = m.role } in x)) (sym (eqb-true m.member n e))
    go false e more = more

-- those with these numbers
abbrev members_with : List Member → List ℕ → List Member
members_with ms ns = filter_map (λ n. find (λ m. eqb m.member n) ms) ns

members_of_people : (r : Roster) (ns : List ℕ) → filter_map member_in (map (person_of r) ns) ≡ members_with r.members ns
members_of_people r [] = refl
members_of_people r (n ∷ ns) =
    ap (λ (o : Option Member). cons_option o (filter_map member_in (map (person_of r) ns))) (found_same n r.members)
    ∙ ap (λ (l : List Member). cons_option (find (λ m. eqb m.member n) r.members) l) (members_of_people r ns)

members_later : (m : Member) (ms : List Member) (low : ℕ) (ns : List ℕ) → m.member < low → Above low ns → members_with (m ∷ ms) ns ≡ members_with ms ns
members_later m ms low [] l h = refl
members_later m ms low (n ∷ ns) l h =
    let k = h.0 in
    ap (λ (b : Bool). cons_option (cond b (Some m) (find (λ m. eqb m.member n) ms)) (members_with (m ∷ ms) ns)) (apart_from m.member n (omega (arith, l, k)))
    ∙ ap (λ (l : List Member). cons_option (find (λ m. eqb m.member n) ms) l) (members_later m ms (suc n) ns (omega (arith, l, k)) h.1)

no_members : (ns : List ℕ) → members_with [] ns ≡ []
no_members [] = refl
no_members (n ∷ ns) = no_members ns

or_true : (b : Bool) → (true || b) ≡ true
or_true b = refl

or_later : (a b : Bool) → b ≡ true → (a || b) ≡ true
or_later true b h = refl
or_later false b h = h

members_back : (ns : List ℕ) (ms : List Member) (low least : ℕ) → Above low ns → Above least (numbers_of ms)
    → ((k : ℕ) → list_any (λ m. eqb m k) (numbers_of ms) ≡ true → list_any (λ m. eqb m k) ns ≡ true) → members_with ms ns ≡ ms
members_back ns [] low least h k among = no_members ns
members_back [] (m ∷ ms) low least h k among = absurd (
    let no : false ≡ true = among m.member (ap (λ (b : Bool). b || list_any (λ x. eqb x m.member) (numbers_of ms)) (eq-eqb m.member m.member refl)) in
    cc)
members_back (n ∷ ns) (m ∷ ms) low least h k among =
    go (eqb m.member n) refl
    (λ e. members_back ns ms (suc n) (suc m.member) h.1 k.1 (λ q is.
    let above = above_less m.member q (numbers_of ms) k.1 is in
    of_others n q ns (apart_from n q (let s = eqb-true m.member n e in omega (arith, s, above))) (among q (or_later (eqb m.member q) _ is))))
    (λ later. members_back ns (m ∷ ms) (suc n) least h.1 k (λ q is.
    of_others n q ns (apart_from n q (at_least q is later)) (among q is)))
  where
    at_least : (q : ℕ) → list_any (λ x. eqb x q) (m.member ∷ numbers_of ms) ≡ true → n < m.member → n < q
    at_least q is later = above_less n q (m.member ∷ numbers_of ms) (later, k.1) is

    here : list_any (λ x. eqb x m.member) (m.member ∷ numbers_of ms) ≡ true
    here = ap (λ (b : Bool). b || list_any (λ x. eqb x m.member) (numbers_of ms)) (eq-eqb m.member m.member refl)

    flipped : eqb m.member n ≡ false → eqb n m.member ≡ false
    flipped e = false_from_ne_true (eqb n m.member) (λ t.
        let s = eqb-true n m.member t in
        let both : true ≡ false = sym (eq-eqb m.member n (sym s)) ∙ e in
        cc)

    go : (b : Bool) → eqb m.member n ≡ b → (eqb m.member n ≡ true → members_with ms ns ≡ ms) → (n < m.member → members_with (m ∷ ms) ns ≡ m ∷ ms)
        → cons_option (cond b (Some m) (find (λ x. eqb x.member n) ms)) (members_with (m ∷ ms) ns) ≡ m ∷ ms
    go true e first later =
        let s = eqb-true m.member n e in
        ap (λ (l : List Member). m ∷ l) (members_later m ms (suc n) ns (omega (arith, s)) h.1 ∙ first e)
    go false e first later =
        let above : n < m.member = above_less n m.member ns h.1 (of_others n m.member ns (flipped e) (among m.member here)) in
        ap (λ (o : Option Member). cons_option o (members_with (m ∷ ms) ns)) (none_found n ms (not_above n (suc m.member) (numbers_of ms) (omega (arith, above)) k.1))
        ∙ later above

-- ---- devices by their members

others_all : (n : ℕ) (ds : List KeyedDevice) → AreGrouped (suc n) ds → filter (λ d. not (eqb d.device.member n)) ds ≡ ds
others_all n [] h = refl
others_all n (d ∷ ds) h =
    let l = h.0 in
    ap (λ (b : Bool). cond (not b) (d ∷ filter (λ d. not (eqb d.device.member n)) ds) (filter (λ d. not (eqb d.device.member n)) ds)) (false_from_ne_true (eqb d.device.member n) (λ e. let s = eqb-true d.device.member n e in omega (arith, s, l)))
    ∙ ap (λ (l : List KeyedDevice). d ∷ l) (others_all n ds (lower d.device.member (suc n) ds l h.1))

parted : (n : ℕ) (ds : List KeyedDevice) → AreGrouped n ds → filter (λ d. eqb d.device.member n) ds ++ filter (λ d. not (eqb d.device.member n)) ds ≡ ds
parted n [] h = refl
parted n (d ∷ ds) h = go (eqb d.device.member n) refl (parted n ds (lower d.device.member n ds h.0 h.1))
  where
    own : List KeyedDevice
    own = filter (λ d. eqb d.device.member n) ds

    others : List KeyedDevice
    others = filter (λ d. not (eqb d.device.member n)) ds

    go : (b : Bool) → eqb d.device.member n ≡ b → own ++ others ≡ ds → cond b (d ∷ own) own ++ cond (not b) (d ∷ others) others ≡ d ∷ ds
    go true e more = ap (λ (l : List KeyedDevice). d ∷ l) more
    go false e more =
        let ne = eqb-false d.device.member n e in
        let l = h.0 in
        let behind : AreGrouped (suc n) ds = lower d.device.member (suc n) ds (omega (arith, ne, l)) h.1 in
        ap (λ (l : List KeyedDevice). l ++ d ∷ others) (none_here n ds behind) ∙ ap (λ (l : List KeyedDevice). d ∷ l) (others_all n ds behind)

of_others_same : (n k : ℕ) (ds : List KeyedDevice) → n < k → filter (λ d. eqb d.device.member k) (filter (λ d. not (eqb d.device.member n)) ds) ≡ filter (λ d. eqb d.device.member k) ds
of_others_same n k [] l = refl
of_others_same n k (d ∷ ds) l = go (eqb d.device.member n) refl (of_others_same n k ds l)
  where
    others : List KeyedDevice
    others = filter (λ d. not (eqb d.device.member n)) ds

    own : List KeyedDevice
    own = filter (λ d. eqb d.device.member k) ds

    go : (b : Bool) → eqb d.device.member n ≡ b → filter (λ d. eqb d.device.member k) others ≡ own → filter (λ d. eqb d.device.member k) (cond (not b) (d ∷ others) others) ≡ cond (eqb d.device.member k) (d ∷ own) own
    go true e more =
        let s = eqb-true d.device.member n e in
        more ∙ ap (λ (b : Bool). cond b (d ∷ own) own) (sym (apart_from d.device.member k (omega (arith, s, l))))
    go false e more = ap (λ (l : List KeyedDevice). cond (eqb d.device.member k) (d ∷ l) l) more

abbrev devices_with : List KeyedDevice → List ℕ → List KeyedDevice
devices_with ds ns = flat_map (λ n. filter (λ d. eqb d.device.member n) ds) ns

others_with : (n low : ℕ) (ds : List KeyedDevice) (ns : List ℕ) → n < low → Above low ns → devices_with (filter (λ d. not (eqb d.device.member n)) ds) ns ≡ devices_with ds ns
others_with n low ds [] l h = refl
others_with n low ds (k ∷ ns) l h =
    let g = h.0 in
    ap (λ (own : List KeyedDevice). own ++ devices_with (filter (λ d. not (eqb d.device.member n)) ds) ns) (of_others_same n k ds (omega (arith, l, g)))
    ∙ ap (λ (rest : List KeyedDevice). filter (λ d. eqb d.device.member k) ds ++ rest) (others_with n (suc k) ds ns (omega (arith, l, g)) h.1)

-- the first is of no number below these
first_least : (n : ℕ) (ns : List ℕ) (ds : List KeyedDevice) → Above (suc n) ns → AreInOrder ds → ((k : ℕ) → has_one_of k ds ≡ true → list_any (λ m. eqb m k) (n ∷ ns) ≡ true) → AreGrouped n ds
first_least n ns [] h order among = tt
first_least n ns (d ∷ ds) h order among =
    let is = among d.device.member (ap (λ (b : Bool). b || has_one_of d.device.member ds) (eq-eqb d.device.member d.device.member refl)) in
    (go (eqb n d.device.member) refl is, (grouped (d ∷ ds) order).1)
  where
    go : (b : Bool) → eqb n d.device.member ≡ b → (b || list_any (λ m. eqb m d.device.member) ns) ≡ true → n ≤ d.device.member
    go true e is = let s = eqb-true n d.device.member e in omega (arith, s)
    go false e is = let l = above_less n d.device.member ns h is in omega (arith, l)

none_left : (n k : ℕ) (ds : List KeyedDevice) → eqb n k ≡ true → has_one_of k (filter (λ d. not (eqb d.device.member n)) ds) ≡ false
none_left n k ds is = any-filter_same (λ d. eqb d.device.member k) (λ d. not (eqb d.device.member n)) false (λ d e.
    let s = eqb-true d.device.member k e in
    let t = eqb-true n k is in
    ap not (eq-eqb d.device.member n (s ∙ sym t))) ds

devices_back : (ns : List ℕ) (ds : List KeyedDevice) (low : ℕ) → Above low ns → AreInOrder ds → ((k : ℕ) → has_one_of k ds ≡ true → list_any (λ m. eqb m k) ns ≡ true) → devices_with ds ns ≡ ds
devices_back [] [] low h order among = refl
devices_back [] (d ∷ ds) low h order among = absurd (
    let no : false ≡ true = among d.device.member (ap (λ (b : Bool). b || has_one_of d.device.member ds) (eq-eqb d.device.member d.device.member refl)) in
    cc)
devices_back (n ∷ ns) ds low h order among =
    let others = filter (λ (d : KeyedDevice). not (eqb d.device.member n)) ds in
    ap (λ (rest : List KeyedDevice). filter (λ d. eqb d.device.member n) ds ++ rest)
    (sym (others_with n (suc n) ds ns (omega arith) h.1)
    ∙ devices_back ns others (suc n) h.1 (in_order_filter (λ d. not (eqb d.device.member n)) ds order) (λ k is.
    of_others n k ns (false_from_ne_true (eqb n k) (λ e. let no = none_left n k ds e in let both : true ≡ false = sym is ∙ no in cc))
    (among k (any_filtered (λ d. eqb d.device.member k) (λ d. not (eqb d.device.member n)) ds is))))
    ∙ parted n ds (first_least n ns ds h.1 order among)

-- ---- the devices of people

ever_same : (r : Roster) (n : ℕ) (es : List KeyedDevice) → map (keyed n) (map (owned_of r) (filter (λ d. eqb d.device.member n) es)) ≡ filter (λ d. eqb d.device.member n) es
ever_same r n [] = refl
ever_same r n (e ∷ es) = go (eqb e.device.member n) refl (ever_same r n es)
  where
    own : List KeyedDevice
    own = filter (λ d. eqb d.device.member n) es

    go : (b : Bool) → eqb e.device.member n ≡ b → map (keyed n) (map (owned_of r) own) ≡ own → map (keyed n) (map (owned_of r) (cond b (e ∷ own) own)) ≡ cond b (e ∷ own) own
    go true is more =
        ap (λ (k : ℕ). (let d : KeyedDevice = record { device = record { member = k; number = e.device.number }; key = e.key } in d) ∷ map (keyed n) (map (owned_of r) own)) (sym (eqb-true e.device.member n is))
        ∙ ap (λ (l : List KeyedDevice). e ∷ l) more
    go false is more = more

live_same : (r : Roster) (n : ℕ) (es : List KeyedDevice) → map (keyed n) (filter (λ o. o.live) (map (owned_of r) (filter (λ d. eqb d.device.member n) es)))
    ≡ filter (λ d. eqb d.device.member n) (filter (λ d. has_device d.device r.devices) es)
live_same r n [] = refl
live_same r n (e ∷ es) = go (eqb e.device.member n) refl (live_same r n es)
  where
    own : List KeyedDevice
    own = filter (λ d. eqb d.device.member n) es

    live : List KeyedDevice
    live = filter (λ d. has_device d.device r.devices) es

    told : Bool → Owned
    told b = record { device = e.device.number; live = b; key = e.key }

    both : (b : Bool) → eqb e.device.member n ≡ true → map (keyed n) (filter (λ o. o.live) (map (owned_of r) own)) ≡ filter (λ d. eqb d.device.member n) live
        → map (keyed n) (cond b (told b ∷ filter (λ o. o.live) (map (owned_of r) own)) (filter (λ o. o.live) (map (owned_of r) own))) ≡ filter (λ d. eqb d.device.member n) (cond b (e ∷ live) live)
    both true is more =
        ap (λ (k : ℕ). (let d : KeyedDevice = record { device = record { member = k; number = e.device.number }; key = e.key } in d) ∷ map (keyed n) (filter (λ o. o.live) (map (owned_of r) own))) (sym (eqb-true e.device.member n is))
        ∙ ap (λ (l : List KeyedDevice). e ∷ l) more
        ∙ ap (λ (b : Bool). cond b (e ∷ filter (λ d. eqb d.device.member n) live) (filter (λ d. eqb d.device.member n) live)) (sym is)
    both false is more = more

    skipped : (b : Bool) → eqb e.device.member n ≡ false → map (keyed n) (filter (λ o. o.live) (map (owned_of r) own)) ≡ filter (λ d. eqb d.device.member n) live
        → map (keyed n) (filter (λ o. o.live) (map (owned_of r) own)) ≡ filter (λ d. eqb d.device.member n) (cond b (e ∷ live) live)
    skipped true is more = more ∙ ap (λ (b : Bool). cond b (e ∷ filter (λ d. eqb d.device.member n) live) (filter (λ d. eqb d.device.member n) live)) (sym is)
    skipped false is more = more

    go : (a : Bool) → eqb e.device.member n ≡ a → map (keyed n) (filter (λ o. o.live) (map (owned_of r) own)) ≡ filter (λ d. eqb d.device.member n) live
        → map (keyed n) (filter (λ o. o.live) (map (owned_of r) (cond a (e ∷ own) own))) ≡ filter (λ d. eqb d.device.member n) (cond (has_device e.device r.devices) (e ∷ live) live)
    go true is more = both (has_device e.device r.devices) is more
    go false is more = skipped (has_device e.device r.devices) is more

ever_of_people : (r : Roster) (ns : List ℕ) → flat_map ever_of (map (person_of r) ns) ≡ devices_with r.ever ns
ever_of_people r [] = refl
ever_of_people r (n ∷ ns) =
    ap (λ (own : List KeyedDevice). own ++ flat_map ever_of (map (person_of r) ns)) (ever_same r n r.ever)
    ∙ ap (λ (rest : List KeyedDevice). filter (λ d. eqb d.device.member n) r.ever ++ rest) (ever_of_people r ns)

live_of_people : (r : Roster) (ns : List ℕ) → flat_map live_of (map (person_of r) ns) ≡ devices_with (filter (λ d. has_device d.device r.devices) r.ever) ns
live_of_people r [] = refl
live_of_people r (n ∷ ns) =
    ap (λ (own : List KeyedDevice). own ++ flat_map live_of (map (person_of r) ns)) (live_same r n r.ever)
    ∙ ap (λ (rest : List KeyedDevice). filter (λ d. eqb d.device.member n) (filter (λ d. has_device d.device r.devices) r.ever) ++ rest) (live_of_people r ns)

abbrev made : Bool → List Member → List ℕ → List KeyedDevice → List KeyedDevice → Roster
made upgraded ms used ds ever = record { members = ms; used = used; devices = ds; ever = ever; upgraded = upgraded }

pub sound_restored : (r : Roster) → IsSound r → roster_of_people (people_of r) r.upgraded ≡ r
sound_restored r s =
    let used = from_increasing 0 r.used s.used (λ _. omega arith) in
    let members : filter_map member_in (people_of r) ≡ r.members =
    members_of_people r r.used ∙ members_back r.used r.members 0 0 used (from_increasing 0 (numbers_of r.members) s.ascending (λ _. omega arith)) s.among in
    let ever : flat_map ever_of (people_of r) ≡ r.ever = ever_of_people r r.used ∙ devices_back r.used r.ever 0 used s.ever s.owned in
    let live : flat_map live_of (people_of r) ≡ r.devices =
    live_of_people r r.used ∙ ap (λ (ds : List KeyedDevice). devices_with ds r.used) (sym s.live)
    ∙ devices_back r.used r.devices 0 used (live_in_order r s) (λ k is. s.among k (s.belong k is)) in
    ap (λ (ms : List Member). made r.upgraded ms (map (λ p. p.member) (people_of r)) (flat_map live_of (people_of r)) (flat_map ever_of (people_of r))) members
    ∙ ap (λ (ns : List ℕ). made r.upgraded r.members ns (flat_map live_of (people_of r)) (flat_map ever_of (people_of r))) (numbers_back r r.used)
    ∙ ap (λ (ds : List KeyedDevice). made r.upgraded r.members r.used ds (flat_map ever_of (people_of r))) live
    ∙ ap (made r.upgraded r.members r.used r.devices) ever

pub history_restored : (fs : List Founder) (cs : List Change) → IsHistory fs cs → roster_of_people (people_of (fold after_change (founded fs) cs)) (fold after_change (founded fs) cs).upgraded ≡ fold after_change (founded fs) cs
history_restored fs cs h = sound_restored (fold after_change (founded fs) cs) (sound_history fs cs h)
