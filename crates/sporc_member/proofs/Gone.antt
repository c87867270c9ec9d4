-- A device that a change removes, or whose member it removes, is live never again.
use Rattle.std.proofs.Common.{◌≡◌, ℕ, Bool, true, false, eqb, not, List, [], ◌∷◌, ◌++◌, refl, ap, sym, ◌∙◌, filter, Option, None, Some, is_some}
use Rattle.std.proofs.lemmas.Map.Views.{any-filter_same}
use Rattle.sporc_member.proofs.Common.{◌||◌, and_parts, eq-eqb, eqb-true, false_from_ne_true, fold, list_any, Add, Remove, SetRole, AddDevice, DropDevice, Upgrade, NotMember, NoDevice, NotUpgraded, Device, KeyedDevice}
use Rattle.sporc_member.proofs.Common.{Member, first_device, same_device, insert_device, device_place, Roster, after_change, change_fault_of, founded, is_used, key_of, member_at, numbers_of, removes, IsSound, has_device}
use Rattle.sporc_member.specs.declared.change.Change.{Change}
use Rattle.sporc_member.specs.declared.founder.Founder.{Founder}
use Rattle.sporc_member.specs.declared.role.Role.{Role}
use Rattle.sporc_member.specs.Histories.{AreAccepted, IsHistory}
use Rattle.sporc_member.proofs.Belonging.{device_passes, has_key, of_same, some_number}
use Rattle.sporc_member.proofs.Checks.{passes}
use Rattle.sporc_member.proofs.Keeping.{add_passes, any_filtered, any_inserted}
use Rattle.sporc_member.proofs.Places.{numbers_of-filter, numbers_of-with_role}
use Rattle.sporc_member.proofs.SameDevice.{one_same, same_one}
use Rattle.sporc_member.proofs.Sound.{numbers_inserted, sound_after, sound_founders, used_inserted}

-- whether a number is a member's
abbrev is_member : Roster → ℕ → Bool
is_member r n = list_any (λ m. eqb m n) (numbers_of r.members)

-- it isn't live, and was used, or its member is gone; its member's number was used in any case
pub record IsGone (r : Roster) (d : Device) : Type 0 where
  pub dead : has_device d r.devices ≡ false
  pub used : is_used r d.member ≡ true
  pub kept : (has_device d r.ever || not (is_member r d.member)) ≡ true

-- ---- Booleans

more : (a b c : Bool) → (a ≡ true → b ≡ true) → (a || c) ≡ true → (b || c) ≡ true
more true b c f h = ap (λ (t : Bool). t || c) (f refl)
more false true c f h = refl
more false false c f h = h

fewer : (a b c : Bool) → (c ≡ true → b ≡ true) → (a || not b) ≡ true → (a || not c) ≡ true
fewer true b c f h = refl
fewer false true c f h = absurd cc
fewer false false true f h = absurd (let e : false ≡ true = f refl in cc)
fewer false false false f h = refl

differ : (b : Bool) → b ≡ true → b ≡ false → ⊥
differ b h k = let e : true ≡ false = sym h ∙ k in absurd cc

none_filtered : (p kept : KeyedDevice → Bool) (ds : List KeyedDevice) → list_any p ds ≡ false → list_any p (filter kept ds) ≡ false
none_filtered p kept ds none = false_from_ne_true (list_any p (filter kept ds)) (λ h. differ (list_any p ds) (any_filtered p kept ds h) none)

-- a device more
has_inserted : (d : Device) (x : KeyedDevice) (ds : List KeyedDevice) → has_device d (insert_device x ds) ≡ (same_device x.device d || has_device d ds)
has_inserted d x ds = any_inserted (λ l. same_device l.device d) ds (device_place x.device ds) x

stays_dead : (d : Device) (x : KeyedDevice) (ds : List KeyedDevice) → same_device x.device d ≡ false → has_device d ds ≡ false → has_device d (insert_device x ds) ≡ false
stays_dead d x ds ne none = has_inserted d x ds ∙ ap (λ (b : Bool). b || has_device d ds) ne ∙ none

still_has : (d : Device) (x : KeyedDevice) (ds : List KeyedDevice) → has_device d ds ≡ true → has_device d (insert_device x ds) ≡ true
still_has d x ds h = has_inserted d x ds ∙ go (same_device x.device d) (has_device d ds) h
  where
    go : (a b : Bool) → b ≡ true → (a || b) ≡ true
    go true b h = refl
    go false b h = h

-- ---- gone it stays, through each change

gone_add : (r : Roster) (m : ℕ) (role : Role) (key : List ℕ) (d : Device) → change_fault_of r (Add m role key) ≡ None → IsGone r d → IsGone (after_change r (Add m role key)) d
gone_add r m role key d none g =
    let p = add_passes r m role key none in
    let x : KeyedDevice = record { device = first_device m; key = key } in
    let new : Member = record { member = m; role = role } in
    let other : eqb m d.member ≡ false = false_from_ne_true (eqb m d.member) (λ e.
    differ (is_used r m) (ap (is_used r) (eqb-true m d.member e) ∙ g.used) p.0) in
    let ne : same_device (first_device m) d ≡ false = false_from_ne_true (same_device (first_device m) d) (λ s.
    differ (eqb m d.member) (and_parts (eqb m d.member) (eqb 0 d.number) s).0 other) in
    record {
      dead = stays_dead d x r.devices ne g.dead;
      used = used_inserted d.member m r.used ∙ ap (λ (b : Bool). b || is_used r d.member) other ∙ g.used;
      kept = fewer _ (is_member r d.member) _ (λ h. ap (λ (b : Bool). b || is_member r d.member) (sym other) ∙ sym (numbers_inserted d.member new r.members) ∙ h)
          (more (has_device d r.ever) _ (not (is_member r d.member)) (still_has d x r.ever) g.kept);
    }

gone_remove : (r : Roster) (n : ℕ) (d : Device) → IsGone r d → IsGone (after_change r (Remove n)) d
gone_remove r n d g = record {
  dead = none_filtered (λ l. same_device l.device d) (λ l. not (eqb l.device.member n)) r.devices g.dead;
  used = g.used;
  kept = fewer (has_device d r.ever) (is_member r d.member) _ (λ h. any_filtered (λ m. eqb m d.member) (λ m. not (eqb m n)) (numbers_of r.members) (ap (list_any (λ m. eqb m d.member)) (sym (numbers_of-filter n r.members)) ∙ h)) g.kept;
}

gone_role : (r : Roster) (n : ℕ) (role : Role) (d : Device) → IsGone r d → IsGone (after_change r (SetRole n role)) d
gone_role r n role d g = record {
  dead = g.dead;
  used = g.used;
  kept = fewer (has_device d r.ever) (is_member r d.member) _ (λ h. ap (list_any (λ m. eqb m d.member)) (sym (numbers_of-with_role n role r.members)) ∙ h) g.kept;
}

gone_device : (r : Roster) (n number : ℕ) (key : List ℕ) (d : Device) → change_fault_of r (AddDevice n number key) ≡ None → IsGone r d → IsGone (after_change r (AddDevice n number key)) d
gone_device r n number key d none g =
    let p = device_passes r n number key none in
    let new : Device = record { member = n; number = number } in
    let x : KeyedDevice = record { device = new; key = key } in
    let ne : same_device new d ≡ false = false_from_ne_true (same_device new d) (λ s.
    let same : new ≡ d = same_one new d s in
    no_other (has_device d r.ever) (is_member r d.member)
    (ap (λ (d : Device). has_device d r.ever) (sym same) ∙ p.2)
    (ap (λ (d : Device). is_member r d.member) (sym same) ∙ some_number n r.members ∙ p.1) g.kept) in
    record {
      dead = stays_dead d x r.devices ne g.dead;
      used = g.used;
      kept = more (has_device d r.ever) _ (not (is_member r d.member)) (still_has d x r.ever) g.kept;
    }
  where
    no_other : (a b : Bool) → a ≡ false → b ≡ true → (a || not b) ≡ true → ⊥
    no_other true b e f h = absurd cc
    no_other false true e f h = absurd cc
    no_other false false e f h = absurd cc

gone_drop : (r : Roster) (n number : ℕ) (d : Device) → IsGone r d → IsGone (after_change r (DropDevice n number)) d
gone_drop r n number d g = record {
  dead = none_filtered (λ l. same_device l.device d) (λ l. not (same_device l.device (record { member = n; number = number }))) r.devices g.dead;
  used = g.used;
  kept = g.kept;
}

gone_after : (r : Roster) (c : Change) (d : Device) → change_fault_of r c ≡ None → IsGone r d → IsGone (after_change r c) d
gone_after r (Add m role key) d none g = gone_add r m role key d none g
gone_after r (Remove n) d none g = gone_remove r n d g
gone_after r (SetRole n role) d none g = gone_role r n role d g
gone_after r (AddDevice n number key) d none g = gone_device r n number key d none g
gone_after r (DropDevice n number) d none g = gone_drop r n number d g
gone_after r Upgrade d none g = record { dead = g.dead; used = g.used; kept = g.kept }

-- ---- a change that removes it

removed : (r : Roster) (n : ℕ) (d : Device) → change_fault_of r (Remove n) ≡ None → IsSound r → eqb n d.member ≡ true → IsGone (after_change r (Remove n)) d
removed r n d none s is =
    let here : n ≡ d.member = eqb-true n d.member is in
    let a = passes (is_some (member_at r n)) NotMember _ none in
    let out : not (eqb d.member n) ≡ false = ap not (eq-eqb d.member n (sym here)) in
    let gone : is_member (after_change r (Remove n)) d.member ≡ false =
    ap (list_any (λ m. eqb m d.member)) (numbers_of-filter n r.members)
    ∙ any-filter_same (λ m. eqb m d.member) (λ m. not (eqb m n)) false (λ m e. ap (λ (k : ℕ). not (eqb k n)) (eqb-true m d.member e) ∙ out) (numbers_of r.members) in
    record {
      dead = any-filter_same (λ l. same_device l.device d) (λ l. not (eqb l.device.member n)) false (λ l e. ap (λ (x : Device). not (eqb x.member n)) (same_one l.device d e) ∙ out) r.devices;
      used = ap (is_used r) (sym here) ∙ s.among n (some_number n r.members ∙ a.0);
      kept = ap (λ (b : Bool). has_device d r.ever || not b) gone ∙ last (has_device d r.ever);
    }
  where
    last : (b : Bool) → (b || true) ≡ true
    last true = refl
    last false = refl

dropped : (r : Roster) (n number : ℕ) (d : Device) → change_fault_of r (DropDevice n number) ≡ None → IsSound r → same_device (record { member = n; number = number }) d ≡ true → IsGone (after_change r (DropDevice n number)) d
dropped r n number d none s is =
    let it : Device = record { member = n; number = number } in
    let here : it ≡ d = same_one it d is in
    let a = passes r.upgraded NotUpgraded _ none in
    let b = passes (is_some (member_at r n)) NotMember _ a.1 in
    let c = passes (is_some (key_of r it)) NoDevice _ b.1 in
    let live : has_device d r.devices ≡ true = ap (λ (d : Device). has_device d r.devices) (sym here) ∙ sym (has_key (λ l. same_device l.device it) r.devices) ∙ c.0 in
    let ever : has_device d r.ever ≡ true = any_filtered (λ l. same_device l.device d) (λ l. has_device l.device r.devices) r.ever (ap (has_device d) (sym s.live) ∙ live) in
    record {
      dead = any-filter_same (λ l. same_device l.device d) (λ l. not (same_device l.device it)) false (λ l e. ap (λ (x : Device). not (same_device x it)) (same_one l.device d e ∙ sym here) ∙ ap not (one_same it)) r.devices;
      used = s.owned d.member (of_same d r.ever ever);
      kept = ap (λ (b : Bool). b || not (is_member r d.member)) ever;
    }

gone_by : (r : Roster) (c : Change) (d : Device) → change_fault_of r c ≡ None → IsSound r → removes d c ≡ true → IsGone (after_change r c) d
gone_by r (Remove n) d none s is = removed r n d none s is
gone_by r (DropDevice n number) d none s is = dropped r n number d none s is
gone_by r (Add m role key) d none s is = absurd cc
gone_by r (SetRole n role) d none s is = absurd cc
gone_by r (AddDevice n number key) d none s is = absurd cc
gone_by r Upgrade d none s is = absurd cc

-- ---- through all of them

gone_stays : (cs : List Change) (r : Roster) (d : Device) → AreAccepted r cs → IsGone r d → IsGone (fold after_change r cs) d
gone_stays [] r d h g = g
gone_stays (c ∷ cs) r d h g = gone_stays cs (after_change r c) d h.1 (gone_after r c d h.0 g)

pub gone_later : (cs : List Change) (r : Roster) (d : Device) → IsSound r → AreAccepted r cs → list_any (removes d) cs ≡ true → IsGone (fold after_change r cs) d
gone_later [] r d s h is = absurd cc
gone_later (c ∷ cs) r d s h is = go (removes d c) refl is (λ more. gone_later cs (after_change r c) d (sound_after r c h.0 s) h.1 more)
  where
    go : (b : Bool) → removes d c ≡ b → (b || list_any (removes d) cs) ≡ true → (list_any (removes d) cs ≡ true → IsGone (fold after_change (after_change r c) cs) d) → IsGone (fold after_change (after_change r c) cs) d
    go true e is more = gone_stays cs (after_change r c) d h.1 (gone_by r c d h.0 s e)
    go false e is more = more is

no_key : (r : Roster) (d : Device) → has_device d r.devices ≡ false → key_of r d ≡ None
no_key r d dead = go (key_of r d) (has_key (λ l. same_device l.device d) r.devices ∙ dead)
  where
    go : (o : Option (List ℕ)) → is_some o ≡ false → o ≡ None
    go None h = refl
    go (Some key) h = absurd cc

pub sound_history : (fs : List Founder) (cs : List Change) → IsHistory fs cs → IsSound (fold after_change (founded fs) cs)
sound_history fs cs h = go cs (founded fs) (sound_founders fs h.ascending h.room) h.accepted
  where
    go : (cs : List Change) (r : Roster) → IsSound r → AreAccepted r cs → IsSound (fold after_change r cs)
    go [] r s h = s
    go (c ∷ cs) r s h = go cs (after_change r c) (sound_after r c h.0 s) h.1

pub gone : (fs : List Founder) (cs : List Change) (d : Device) → IsHistory fs cs → list_any (removes d) cs ≡ true → key_of (fold after_change (founded fs) cs) d ≡ None
gone fs cs d h is = no_key (fold after_change (founded fs) cs) d (gone_later cs (founded fs) d (sound_founders fs h.ascending h.room) h.accepted is).dead

-- ---- one change more

pub accepted_push : (cs : List Change) (r : Roster) (c : Change) → AreAccepted r cs → change_fault_of (fold after_change r cs) c ≡ None → AreAccepted r (cs ++ c ∷ [])
accepted_push [] r c h none = (none, tt)
accepted_push (b ∷ cs) r c h none = (h.0, accepted_push cs (after_change r b) c h.1 none)
