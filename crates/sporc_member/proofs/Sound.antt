-- What every roster keeps, from the founders through each change.
use Rattle.std.proofs.Common.{◌≡◌, ℕ, suc, ◌<◌, ◌≤◌, Bool, true, false, eqb, not, List, [], ◌∷◌, length, take, drop, refl, ap, sym, ◌∙◌, subst, arith, map, filter}
use Rattle.std.proofs.Common.{None, cond, ltb, length-append, length-take, length-drop}
use Rattle.sporc_member.proofs.Common.{◌||◌, false_from_ne_true, list_any, insert, insert_by, length-map, eq-eqb, Add, Remove, SetRole, AddDevice, DropDevice, Upgrade, Device, KeyedDevice, Founder, Member}
use Rattle.sporc_member.proofs.Common.{first_device, same_device, place_among, Roster, member_by, device_by, founded, founder_numbers, numbers_of, is_used, insert_sorted}
use Rattle.sporc_member.proofs.Common.{with_role, after_change, change_fault_of, AreInOrder, IsSound, has_device}
use Rattle.std.specs.List.Sorted.{IsStrictlyIncreasing}
use Rattle.std.proofs.lemmas.List.Kept.{IsStrictlyIncreasing-filter}
use Rattle.std.proofs.lemmas.List.Sums.{count_by-le-length, length-filter}
use Rattle.sporc_member.specs.declared.change.Change.{Change}
use Rattle.sporc_member.specs.declared.limits.TheConstants.{MAX_MEMBERS}
use Rattle.sporc_member.specs.declared.role.Role.{Role}
use Rattle.sporc_member.specs.Roster.{with_device, with_devices}
use Rattle.sporc_member.proofs.Places.{numbers_of-insert_sorted, insert_sorted-place, numbers_of-with_role, numbers_of-filter}
use Rattle.sporc_member.proofs.Keeping.{from_increasing, increasing_insert, any_inserted, any_filtered, numbers_of-founders, add_passes}
use Rattle.sporc_member.proofs.Ordered.{in_order_filter, in_order_founders, in_order_inserted, live_all, live_filtered, live_inserted}
use Rattle.sporc_member.proofs.Belonging.{founded_of, of_same, belong_inserted, belong_without, some_number, device_passes}

-- ---- the beginning

pub sound_founders : (fs : List Founder) → IsStrictlyIncreasing (founder_numbers fs) → length fs ≤ MAX_MEMBERS → IsSound (founded fs)
sound_founders fs ascends few = record {
  ascending = subst IsStrictlyIncreasing (sym (numbers_of-founders fs)) ascends;
  room = omega (arith, few, length-map fs member_by);
  used = ascends;
  among = λ n h. ap (list_any (λ m. eqb m n)) (sym (numbers_of-founders fs)) ∙ h;
  ever = in_order_founders 0 fs (from_increasing 0 (founder_numbers fs) ascends (λ _. omega arith));
  owned = λ n h. sym (founded_of n fs) ∙ h;
  live = sym (live_all (map device_by fs) (map device_by fs) (λ d h. h));
  belong = λ n h. ap (list_any (λ m. eqb m n)) (numbers_of-founders fs) ∙ sym (founded_of n fs) ∙ h;
}

-- ---- a device more

-- one of a member, which never was one
pub sound_device : (r : Roster) (d : Device) (key : List ℕ) → IsSound r → has_device d r.ever ≡ false → list_any (λ m. eqb m d.member) (numbers_of r.members) ≡ true → IsSound (with_device d key r)
sound_device r d key s unused member =
    let new : KeyedDevice = record { device = d; key = key } in
    record {
      ascending = s.ascending;
      room = s.room;
      used = s.used;
      among = s.among;
      ever = in_order_inserted new r.ever s.ever unused;
      owned = belong_inserted r.used new r.ever s.owned (s.among d.member member);
      live = live_inserted new r.devices r.ever s.ever unused s.live;
      belong = belong_inserted (numbers_of r.members) new r.devices s.belong member;
    }

-- ---- a member more

pub used_place : (n : ℕ) (ns : List ℕ) → insert_by (λ m. m) n ns ≡ insert ns (place_among n ns) n
used_place n [] = refl
used_place n (m ∷ ns) = go (ltb n m) (used_place n ns)
  where
    go : (b : Bool) → insert_by (λ m. m) n ns ≡ insert ns (place_among n ns) n
        → cond b (n ∷ m ∷ ns) (m ∷ insert_by (λ m. m) n ns) ≡ insert (m ∷ ns) (cond b 0 (suc (place_among n ns))) n
    go true h = refl
    go false h = ap (λ (l : List ℕ). m ∷ l) h

-- the numbers in a list, with one more
number_inserted : (q n : ℕ) (ns : List ℕ) → list_any (λ m. eqb m q) (insert ns (place_among n ns) n) ≡ (eqb n q || list_any (λ m. eqb m q) ns)
number_inserted q n ns = any_inserted (λ m. eqb m q) ns (place_among n ns) n

pub numbers_inserted : (q : ℕ) (m : Member) (ms : List Member) → list_any (λ n. eqb n q) (numbers_of (insert_sorted m ms)) ≡ (eqb m.member q || list_any (λ n. eqb n q) (numbers_of ms))
numbers_inserted q m ms = ap (list_any (λ n. eqb n q)) (numbers_of-insert_sorted m ms) ∙ number_inserted q m.member (numbers_of ms)

pub used_inserted : (q n : ℕ) (ns : List ℕ) → list_any (λ m. eqb m q) (insert_by (λ m. m) n ns) ≡ (eqb n q || list_any (λ m. eqb m q) ns)
used_inserted q n ns = ap (list_any (λ m. eqb m q)) (used_place n ns) ∙ number_inserted q n ns

either : (a b c : Bool) → (b ≡ true → c ≡ true) → (a || b) ≡ true → (a || c) ≡ true
either true b c more h = refl
either false b c more h = more h

behind : (a b : Bool) → b ≡ true → (a || b) ≡ true
behind true b h = refl
behind false b h = h

-- a list that lacks a number lacks it where it is among another's
lacks : (a b : Bool) → (a ≡ true → b ≡ true) → b ≡ false → a ≡ false
lacks a b more none = false_from_ne_true a (λ e. let both : true ≡ false = sym (more e) ∙ none in cc)

abbrev with_member : Member → Roster → Roster
with_member m r = record r {
  members = insert_sorted m r.members;
  used = insert_by (λ n. n) m.member r.used;
}

length-inserted : (m : Member) (ms : List Member) → length (insert_sorted m ms) ≤ suc (length ms)
length-inserted m ms =
    let i = place_among m.member (numbers_of ms) in
    omega (arith, ap length (insert_sorted-place m ms), length-append (take i ms) (m ∷ drop i ms), length-take i ms, length-drop i ms)

sound_member : (r : Roster) (m : Member) → IsSound r → is_used r m.member ≡ false → length r.members < MAX_MEMBERS → IsSound (with_member m r)
sound_member r m s unused few =
    let ns = numbers_of r.members in
    record {
      ascending = subst IsStrictlyIncreasing (sym (numbers_of-insert_sorted m r.members)) (increasing_insert m.member ns s.ascending (lacks _ _ (s.among m.member) unused));
      room = omega (arith, few, length-inserted m r.members);
      used = subst IsStrictlyIncreasing (sym (used_place m.member r.used)) (increasing_insert m.member r.used s.used unused);
      among = λ q h. used_inserted q m.member r.used ∙ either (eqb m.member q) _ _ (s.among q) (sym (numbers_inserted q m r.members) ∙ h);
      ever = s.ever;
      owned = λ q h. used_inserted q m.member r.used ∙ behind (eqb m.member q) _ (s.owned q h);
      live = s.live;
      belong = λ q h. numbers_inserted q m r.members ∙ behind (eqb m.member q) _ (s.belong q h);
    }

sound_add : (r : Roster) (m : ℕ) (role : Role) (key : List ℕ) → change_fault_of r (Add m role key) ≡ None → IsSound r → IsSound (after_change r (Add m role key))
sound_add r m role key none s =
    let p = add_passes r m role key none in
    let new : Member = record { member = m; role = role } in
    sound_device (with_member new r) (first_device m) key (sound_member r new s p.0 p.1)
    (lacks _ _ (λ h. s.owned m (of_same (first_device m) r.ever h)) p.0)
    (numbers_inserted m new r.members ∙ ap (λ (b : Bool). b || list_any (λ n. eqb n m) (numbers_of r.members)) (eq-eqb m m refl))

-- ---- some of the devices alone

pub sound_remove : (r : Roster) (n : ℕ) → IsSound r → IsSound (after_change r (Remove n))
sound_remove r n s = record {
  ascending = subst IsStrictlyIncreasing (sym (numbers_of-filter n r.members)) (IsStrictlyIncreasing-filter (λ m. not (eqb m n)) (numbers_of r.members) s.ascending);
  room = omega (arith, s.room, length-filter (λ (m : Member). not (eqb m.member n)) r.members, count_by-le-length (λ (m : Member). not (eqb m.member n)) r.members);
  used = s.used;
  among = λ q h. s.among q (any_filtered (λ m. eqb m q) (λ m. not (eqb m n)) (numbers_of r.members) (ap (list_any (λ m. eqb m q)) (sym (numbers_of-filter n r.members)) ∙ h));
  ever = s.ever;
  owned = s.owned;
  live = live_filtered (λ (d : Device). not (eqb d.member n)) r.devices r.ever s.live;
  belong = λ q h. ap (list_any (λ m. eqb m q)) (numbers_of-filter n r.members) ∙ belong_without (numbers_of r.members) r.devices n s.belong q h;
}

pub sound_drop : (r : Roster) (stays : Device → Bool) → IsSound r → IsSound (with_devices stays r)
sound_drop r stays s = record {
  ascending = s.ascending;
  room = s.room;
  used = s.used;
  among = s.among;
  ever = s.ever;
  owned = s.owned;
  live = live_filtered stays r.devices r.ever s.live;
  belong = λ q h. s.belong q (any_filtered (λ d. eqb d.device.member q) (λ d. stays d.device) r.devices h);
}

-- ---- each change

pub sound_role : (r : Roster) (n : ℕ) (role : Role) → IsSound r → IsSound (after_change r (SetRole n role))
sound_role r n role s =
    let same = numbers_of-with_role n role r.members in
    record {
      ascending = subst IsStrictlyIncreasing (sym same) s.ascending;
      room = omega (arith, s.room, length-map r.members (with_role n role));
      used = s.used;
      among = λ q h. s.among q (ap (list_any (λ m. eqb m q)) (sym same) ∙ h);
      ever = s.ever;
      owned = s.owned;
      live = s.live;
      belong = λ q h. ap (list_any (λ m. eqb m q)) same ∙ s.belong q h;
    }

pub sound_upgrade : (r : Roster) → IsSound r → IsSound (after_change r Upgrade)
sound_upgrade r s = record {
  ascending = s.ascending;
  room = s.room;
  used = s.used;
  among = s.among;
  ever = s.ever;
  owned = s.owned;
  live = s.live;
  belong = s.belong;
}

pub sound_after : (r : Roster) (change : Change) → change_fault_of r change ≡ None → IsSound r → IsSound (after_change r change)
sound_after r (Add m role key) none s = sound_add r m role key none s
sound_after r (Remove n) none s = sound_remove r n s
sound_after r (SetRole n role) none s = sound_role r n role s
sound_after r (AddDevice n number key) none s =
    let p = device_passes r n number key none in
    sound_device r (record { member = n; number = number }) key s p.2 (some_number n r.members ∙ p.1)
sound_after r (DropDevice n number) none s = sound_drop r (λ d. not (same_device d (record { member = n; number = number }))) s
sound_after r Upgrade none s = sound_upgrade r s

-- the live devices are in order too
pub live_in_order : (r : Roster) → IsSound r → AreInOrder r.devices
live_in_order r s = subst AreInOrder (sym s.live) (in_order_filter (λ d. has_device d.device r.devices) r.ever s.ever)
