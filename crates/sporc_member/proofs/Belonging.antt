-- Live devices are of members and, up to the Upgrade, their first ones, through each change.
use Rattle.std.proofs.Common.{◌≡◌, ℕ, Bool, true, false, cond, eqb, not, List, [], ◌∷◌, Some, None, is_some, refl, ap, sym, ◌∙◌, map, filter}
use Rattle.sporc_member.proofs.Common.{◌||◌, ◌&&◌, false_from_ne_true, find, option_map, list_any, eqb-true, or_parts, and_parts, AddDevice, NotUpgraded, NotMember, DeviceUsed, Device, KeyedDevice}
use Rattle.sporc_member.proofs.Common.{Founder, Member, first_device, same_device, device_place, insert_device, Roster, device_by, founder_numbers, numbers_of, member_at, is_device_used, change_fault_of}
use Rattle.sporc_member.proofs.Common.{AreFirst, has_device, has_one_of}
use Rattle.std.proofs.lemmas.Map.Views.{any-filter_same}
use Rattle.sporc_member.proofs.Checks.{passes}
use Rattle.sporc_member.proofs.Keeping.{any_inserted, any_filtered}

-- ---- the beginning

pub founded_of : (n : ℕ) (fs : List Founder) → has_one_of n (map device_by fs) ≡ list_any (λ m. eqb m n) (founder_numbers fs)
founded_of n [] = refl
founded_of n (f ∷ fs) = ap (λ (b : Bool). eqb f.member n || b) (founded_of n fs)

founded_first : (d : Device) (fs : List Founder) → has_device d (map device_by fs) ≡ true → d.number ≡ 0
founded_first d [] h = absurd cc
founded_first d (f ∷ fs) h = go (same_device (first_device f.member) d) refl (founded_first d fs) h
  where
    go : (b : Bool) → same_device (first_device f.member) d ≡ b → (has_device d (map device_by fs) ≡ true → d.number ≡ 0) → (b || has_device d (map device_by fs)) ≡ true → d.number ≡ 0
    go true e more h = sym (eqb-true 0 d.number (and_parts (eqb f.member d.member) (eqb 0 d.number) e).1)
    go false e more h = more h

pub founds_first : (fs : List Founder) → AreFirst (map device_by fs) false
founds_first fs _ d h = founded_first d fs h

-- ---- each change

either : (a b c : Bool) → (b ≡ true → c ≡ true) → (a || b) ≡ true → (a || c) ≡ true
either true b c more h = refl
either false b c more h = more h

-- with a member's first device
pub first_add : (ds : List KeyedDevice) (upgraded : Bool) (m : ℕ) (live : KeyedDevice) → AreFirst ds upgraded → live.device ≡ first_device m → AreFirst (insert_device live ds) upgraded
first_add ds upgraded m live k is old d h = go (same_device live.device d) refl (sym (any_inserted (λ l. same_device l.device d) ds (device_place live.device ds) live) ∙ h)
  where
    go : (b : Bool) → same_device live.device d ≡ b → (b || has_device d ds) ≡ true → d.number ≡ 0
    go true same h =
        let at : same_device (first_device m) d ≡ true = ap (λ (x : Device). same_device x d) (sym is) ∙ same in
        sym (eqb-true 0 d.number (and_parts (eqb m d.member) (eqb 0 d.number) at).1)
    go false same h = k old d h

-- once the document is upgraded
pub first_upgraded : (ds : List KeyedDevice) (upgraded : Bool) → upgraded ≡ true → AreFirst ds upgraded
first_upgraded ds upgraded new old d h = absurd (let both : true ≡ false = sym new ∙ old in cc)

-- with some of them alone
pub first_drop : (ds : List KeyedDevice) (upgraded : Bool) (kept : KeyedDevice → Bool) → AreFirst ds upgraded → AreFirst (filter kept ds) upgraded
first_drop ds upgraded kept k old d h = k old d (any_filtered (λ l. same_device l.device d) kept ds h)

-- the numbers that devices are of, with one more
pub of_inserted : (n : ℕ) (live : KeyedDevice) (ds : List KeyedDevice) → has_one_of n (insert_device live ds) ≡ (eqb live.device.member n || has_one_of n ds)
of_inserted n live ds = any_inserted (λ d. eqb d.device.member n) ds (device_place live.device ds) live

-- those of members, with one of a member more
pub belong_inserted : (ns : List ℕ) (live : KeyedDevice) (ds : List KeyedDevice) → ((n : ℕ) → has_one_of n ds ≡ true → list_any (λ m. eqb m n) ns ≡ true)
    → list_any (λ m. eqb m live.device.member) ns ≡ true → (n : ℕ) → has_one_of n (insert_device live ds) ≡ true → list_any (λ m. eqb m n) ns ≡ true
belong_inserted ns live ds belong member n h = go (eqb live.device.member n) refl (sym (of_inserted n live ds) ∙ h)
  where
    go : (b : Bool) → eqb live.device.member n ≡ b → (b || has_one_of n ds) ≡ true → list_any (λ m. eqb m n) ns ≡ true
    go true e h = ap (λ (k : ℕ). list_any (λ m. eqb m k) ns) (sym (eqb-true live.device.member n e)) ∙ member
    go false e h = belong n h

-- what an accepted addition of a device has passed
pub some_number : (n : ℕ) (ms : List Member) → list_any (λ m. eqb m n) (numbers_of ms) ≡ is_some (find (λ m. eqb m.member n) ms)
some_number n [] = refl
some_number n (m ∷ ms) = go (eqb m.member n) (some_number n ms)
  where
    go : (b : Bool) → list_any (λ m. eqb m n) (numbers_of ms) ≡ is_some (find (λ m. eqb m.member n) ms) → (b || list_any (λ m. eqb m n) (numbers_of ms)) ≡ is_some (cond b (Some m) (find (λ m. eqb m.member n) ms))
    go true h = refl
    go false h = h

pub device_passes : (roster : Roster) (n number : ℕ) (key : List ℕ) → change_fault_of roster (AddDevice n number key) ≡ None → (roster.upgraded ≡ true) × (is_some (member_at roster n) ≡ true)
    × (is_device_used roster (record { member = n; number = number }) ≡ false)
device_passes roster n number key h =
    let a = passes roster.upgraded NotUpgraded _ h in
    let b = passes (is_some (member_at roster n)) NotMember _ a.1 in
    let d = passes (not (is_device_used roster (record { member = n; number = number }))) DeviceUsed _ b.1 in
    (a.0, b.0, unused (is_device_used roster (record { member = n; number = number })) d.0)
  where
    unused : (b : Bool) → not b ≡ true → b ≡ false
    unused true h = absurd cc
    unused false h = refl

-- a test of numbers by one, among those without another
apart_from : (q n k : ℕ) → eqb k q ≡ true → not (eqb k n) ≡ not (eqb q n)
apart_from q n k e = ap (λ (x : ℕ). not (eqb x n)) (eqb-true k q e)

pub belong_without : (ns : List ℕ) (ds : List KeyedDevice) (n : ℕ) → ((q : ℕ) → has_one_of q ds ≡ true → list_any (λ m. eqb m q) ns ≡ true)
    → (q : ℕ) → has_one_of q (filter (λ d. not (eqb d.device.member n)) ds) ≡ true → list_any (λ m. eqb m q) (filter (λ m. not (eqb m n)) ns) ≡ true
belong_without ns ds n belong q h =
    let kept = any-filter_same (λ d. eqb d.device.member q) (λ d. not (eqb d.device.member n)) (not (eqb q n)) (λ d is. apart_from q n d.device.member is) ds in
    let p = and_parts (not (eqb q n)) (has_one_of q ds) (sym kept ∙ h) in
    any-filter_same (λ m. eqb m q) (λ m. not (eqb m n)) (not (eqb q n)) (λ m is. apart_from q n m is) ns
    ∙ ap (λ (b : Bool). b && list_any (λ m. eqb m q) ns) p.0 ∙ belong q p.1

-- ---- what is told of a device that has a key

pub has_key : (p : KeyedDevice → Bool) (ds : List KeyedDevice) → is_some (option_map (λ d. d.key) (find p ds)) ≡ list_any p ds
has_key p [] = refl
has_key p (d ∷ ds) = go (p d) (has_key p ds)
  where
    go : (b : Bool) → is_some (option_map (λ d. d.key) (find p ds)) ≡ list_any p ds → is_some (option_map (λ d. d.key) (cond b (Some d) (find p ds))) ≡ (b || list_any p ds)
    go true h = refl
    go false h = h

-- its member has others, or it alone
pub of_same : (d : Device) (ds : List KeyedDevice) → has_device d ds ≡ true → has_one_of d.member ds ≡ true
of_same d [] h = absurd cc
of_same d (l ∷ ds) h = go (same_device l.device d) (eqb l.device.member d.member) refl refl (of_same d ds) h
  where
    go : (b c : Bool) → same_device l.device d ≡ b → eqb l.device.member d.member ≡ c → (has_device d ds ≡ true → has_one_of d.member ds ≡ true) → (b || has_device d ds) ≡ true → (c || has_one_of d.member ds) ≡ true
    go b true e f more h = refl
    go true false e f more h = absurd (let p = and_parts (eqb l.device.member d.member) (eqb l.device.number d.number) e in let both : true ≡ false = sym p.0 ∙ f in cc)
    go false false e f more h = more h

pub live_member : (ms : List Member) (ds : List KeyedDevice) (d : Device) → ((n : ℕ) → has_one_of n ds ≡ true → list_any (λ m. eqb m n) (numbers_of ms) ≡ true)
    → is_some (option_map (λ l. l.key) (find (λ l. same_device l.device d) ds)) ≡ true → is_some (find (λ m. eqb m.member d.member) ms) ≡ true
live_member ms ds d belong h =
    sym (some_number d.member ms) ∙ belong d.member (of_same d ds (sym (has_key (λ l. same_device l.device d) ds) ∙ h))

pub live_first : (ds : List KeyedDevice) (upgraded : Bool) (d : Device) → AreFirst ds upgraded → is_some (option_map (λ l. l.key) (find (λ l. same_device l.device d) ds)) ≡ true
    → upgraded ≡ false → d.number ≡ 0
live_first ds upgraded d k h old = k old d (sym (has_key (λ l. same_device l.device d) ds) ∙ h)

-- one who is no member has no device
pub none_of : (n : ℕ) (ds : List KeyedDevice) → has_one_of n ds ≡ false → filter (λ d. eqb d.device.member n) ds ≡ []
none_of n [] h = refl
none_of n (d ∷ ds) h =
    let p = or_parts (eqb d.device.member n) (has_one_of n ds) h in
    ap (λ (b : Bool). cond b (d ∷ filter (λ d. eqb d.device.member n) ds) (filter (λ d. eqb d.device.member n) ds)) p.0 ∙ none_of n ds p.1

pub no_devices : (ms : List Member) (ds : List KeyedDevice) (n : ℕ) → ((q : ℕ) → has_one_of q ds ≡ true → list_any (λ m. eqb m q) (numbers_of ms) ≡ true)
    → is_some (find (λ m. eqb m.member n) ms) ≡ false → map (λ d. d.device.number) (filter (λ d. eqb d.device.member n) ds) ≡ []
no_devices ms ds n belong h = ap (map (λ d. d.device.number)) (none_of n ds (false_from_ne_true (has_one_of n ds) (λ e.
    let some : is_some (find (λ m. eqb m.member n) ms) ≡ true = sym (some_number n ms) ∙ belong n e in
    let both : true ≡ false = sym some ∙ h in cc)))
