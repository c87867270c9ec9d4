-- The members of a good history: not too many, each with a number above 0. So a change that they accept can be written.
use Rattle.std.proofs.Common.{◌≡◌, ℕ, ◌<◌, ◌≤◌, Bool, true, false, cond, List, [], ◌∷◌, ◌++◌, length, map, refl, ap, sym, ◌∙◌, subst, arith, Option, None, Some, Ok, Err, ◌+◌}
use Rattle.sporc_client.proofs.Common.{find, is_some, nat_lt, not, ◌==◌, ◌&&◌, is_none, AllByRecursion, list_any, and_parts, eqb-false, eqb-true, ltb-true, not-true, first_of}
use Rattle.sporc_client.proofs.Common.{length-map, from_end, MemberChange, Add, Remove, SetRole, AddDevice, DropDevice, Upgrade, Device, Member, Roster, after_change, change_fault_of}
use Rattle.sporc_client.proofs.Common.{insert_sorted, key_of_device, member_by, is_used, member_at, numbers_of, with_role, has_admin, has_role, first_device, same_device, passes}
use Rattle.sporc_client.proofs.Common.{ChangeBody, Entry, Genesis, IsChange, change_of, entry_of, fits_version, has_kind, version_of, IsFounder, IsGenesis, Keys, Sealing, body_sealed, body_unless}
use Rattle.sporc_client.proofs.Common.{least_unpaired, roster_checks, CommittedChange, change_in, roster_of, change_in_read, roster_change, roster_edit, Good, Kit, good_front}
use Rattle.sporc_client.proofs.Common.{last_passes, LineModel, CanTake, IsTypedChange, get, length-filter, count_by-le-length, NoPairKey, sealed, is_admin}
use Rattle.sporc_member.specs.declared.change.ChangeFault.TheVariants as faults
use Rattle.sporc_member.specs.declared.limits.TheConstants.{MAX_MEMBERS}
use Rattle.sporc_member.specs.RosterModel.{AreFirst}
use Rattle.sporc_member.proofs.Belonging.{device_passes, first_add, first_drop, first_upgraded, founds_first, live_first}
use Rattle.sporc_member.proofs.Places.{numbers_of-insert_sorted, place_among-le}
use Rattle.sporc_entry.specs.ChangeBody.{kind_of}
use Rattle.sporc_epoch.proofs.SealedKeys.{first_paired}
use Rattle.sporc_epoch.specs.Sealing.{change_sealed}
use Rattle.sporc_head.proofs.OnceChecked.{no_bad_change}
use Rattle.sporc_client.specs.declared.pending.Pending.TheVariants as items
use Rattle.sporc_client.proofs.AllItems.{all_added, all_filter, all_map}
use Rattle.std.proofs.lemmas.List.Edits.{length-insert}
use Rattle.sporc_member.specs.Device.{insert_device}
use Rattle.sporc_member.specs.Lists.{place_among}

abbrev IsPositive : Member → Type 0
IsPositive m = 0 < m.member

pub record IsFew (roster : Roster) : Type 0 where
  pub positive : AllByRecursion IsPositive roster.members
  pub few : length roster.members ≤ MAX_MEMBERS
  pub first : AreFirst roster.devices roster.upgraded

-- ---- after a change that they accept

length-inserted : (m : Member) (members : List Member) → length (insert_sorted m members) ≡ length members + 1
length-inserted m members =
    let ns = numbers_of members in
    let number : Member → ℕ = λ m. m.member in
    omega (
      arith,
      length-map (insert_sorted m members) number,
      ap length (numbers_of-insert_sorted m members),
      length-insert ns (place_among m.member ns) m.member (place_among-le m.member ns),
      length-map members number,
    )

-- a new number isn't 0
not_zero : (n : ℕ) → not (n == 0) ≡ true → 0 < n
not_zero n h = go (n == 0) refl h
  where
    go : (zero : Bool) → (n == 0) ≡ zero → not zero ≡ true → 0 < n
    go true is h = absurd cc
    go false is h = omega (arith, eqb-false n 0 is)

positive_new : (roster : Roster) (member : ℕ) → (not (member == 0) && not (is_used roster member)) ≡ true → 0 < member
positive_new roster member h = not_zero member (and_parts (not (member == 0)) (not (is_used roster member)) h).0

pub few_after : (roster : Roster) (change : MemberChange) → IsFew roster → change_fault_of roster change ≡ None → IsFew (after_change roster change)
few_after roster (Add member role key) is none =
    let a = passes (not (member == 0) && not (is_used roster member)) faults.NumberUsed _ none in
    let b = passes (nat_lt (length roster.members) MAX_MEMBERS) faults.RosterFull _ a.1 in
    let new : Member = record { member = member; role = role } in
    record {
      positive = all_added IsPositive (λ (m : Member). m.member) new roster.members (positive_new roster member a.0) is.positive;
      few = omega (arith, length-inserted new roster.members, ltb-true (length roster.members) MAX_MEMBERS b.0);
      first = first_add roster.devices roster.upgraded member (record { device = first_device member; key = key }) is.first refl;
    }
few_after roster (Remove member) is none = record {
  positive = all_filter IsPositive (λ m. not (m.member == member)) roster.members is.positive;
  few = omega (arith, length-filter (λ (m : Member). not (m.member == member)) roster.members, count_by-le-length (λ (m : Member). not (m.member == member)) roster.members, is.few);
  first = first_drop roster.devices roster.upgraded (λ d. not (d.device.member == member)) is.first;
}
few_after roster (SetRole member role) is none = record {
  positive = all_map IsPositive IsPositive (with_role member role) (λ m positive. positive) roster.members is.positive;
  few = omega (arith, length-map roster.members (with_role member role), is.few);
  first = is.first;
}
few_after roster (AddDevice member device key) is none =
    let passed = device_passes roster member device key none in
    record {
      positive = is.positive;
      few = is.few;
      first = first_upgraded (insert_device (record { device = record { member = member; number = device }; key = key }) roster.devices) roster.upgraded passed.0;
    }
few_after roster (DropDevice member device) is none = record {
  positive = is.positive;
  few = is.few;
  first = first_drop roster.devices roster.upgraded (λ d. not (same_device d.device (record { member = member; number = device }))) is.first;
}
few_after roster Upgrade is none = record {
  positive = is.positive;
  few = is.few;
  first = first_upgraded roster.devices true refl;
}

-- ---- and so in a good history

abbrev FewIf : Genesis → Kit → List (List ℕ) → Type 0
FewIf g kit entries = Good g kit entries → IsFew (roster_of g entries)

few_more : (g : Genesis) (kit : Kit) (entries : List (List ℕ)) (bytes : List ℕ) → FewIf g kit entries → FewIf g kit (entries ++ bytes ∷ [])
few_more g kit entries bytes before good =
    let last = last_passes g kit entries bytes good in
    let is = before (good_front g kit entries bytes good) in
    go last.0 last.1 last.2.roster is (change_of last.0) refl
  where
    go : (e : Entry) → entry_of bytes ≡ Ok e → first_of (roster_checks (roster_of g entries) (change_of e)) ≡ None → IsFew (roster_of g entries)
        → (o : Option ChangeBody) → change_of e ≡ o → IsFew (roster_of g (entries ++ bytes ∷ []))
    go e reads checks is None of =
        let no_change : change_in bytes ≡ None = change_in_read bytes e None reads (sym of) in
        subst IsFew (sym (roster_edit g entries bytes no_change)) is
    go e reads checks is (Some body) of =
        let committed : CommittedChange = record { header = e.header; body = body } in
        let its : change_in bytes ≡ Some committed = change_in_read bytes e (Some body) reads (sym of) in
        let fault : change_fault_of (roster_of g entries) body.change ≡ None =
        no_bad_change (change_fault_of (roster_of g entries) body.change) _ (ap (λ (o : Option ChangeBody). first_of (roster_checks (roster_of g entries) o)) (sym of) ∙ checks) in
        subst IsFew (sym (roster_change g entries bytes committed its)) (few_after (roster_of g entries) body.change is fault)

pub few_members : (g : Genesis) (kit : Kit) (entries : List (List ℕ)) → IsGenesis g → Good g kit entries → IsFew (roster_of g entries)
few_members g kit entries is = from_end (FewIf g kit) (λ good. record {
  positive = all_map IsFounder IsPositive member_by (λ f is. is.member.0) g.founders is.founders;
  few = omega (arith, length-map g.founders member_by, is.count.1);
  first = founds_first g.founders;
}) (few_more g kit) entries

-- an entry of the version at a roster can be by a device that is the first one up to the Upgrade
pub fits_by : (upgraded : Bool) (number : ℕ) → (upgraded ≡ false → number ≡ 0) → fits_version (version_of upgraded) number ≡ true
fits_by true number first = refl
fits_by false number first = ap (fits_version 1) (first refl)

-- as a live one is
pub live_fits : (roster : Roster) (d : Device) → IsFew roster → is_some (key_of_device roster d) ≡ true → fits_version (version_of roster.upgraded) d.number ≡ true
live_fits roster d is live = fits_by roster.upgraded d.number (live_first roster.devices roster.upgraded d is.first live)

-- ---- such a change can be written

positive_if : (b : Bool) (m n : ℕ) (rest : Option Member) (o : Member) → (m == n) ≡ b → 0 < m → (is_some rest ≡ true → 0 < n) → is_some (cond b (Some o) rest) ≡ true → 0 < n
positive_if true m n rest o is here later h = omega (arith, eqb-true m n is, here)
positive_if false m n rest o is here later h = later h

found_positive : (n : ℕ) (members : List Member) → AllByRecursion IsPositive members → is_some (find (λ (m : Member). m.member == n) members) ≡ true → 0 < n
found_positive n [] all h = absurd cc
found_positive n (m ∷ members) all h = positive_if (m.member == n) m.member n (find (λ (m : Member). m.member == n) members) m refl all.0 (found_positive n members all.1) h

-- what holds of both versions holds
either : (test : Bool → Bool) → test true ≡ true → test false ≡ true → (b : Bool) → test b ≡ true
either test new old true = new
either test new old false = old

pub change_written : (roster : Roster) (change : MemberChange) → IsFew roster → change_fault_of roster change ≡ None → IsTypedChange change → IsChange change
change_written roster (Add member role key) is none typed =
    let a = passes (not (member == 0) && not (is_used roster member)) faults.NumberUsed _ none in
    ((positive_new roster member a.0, typed.0), typed.1)
change_written roster (Remove member) is none typed =
    let a = passes (is_some (member_at roster member)) faults.NotMember _ none in
    (found_positive member roster.members is.positive a.0, typed)
change_written roster (SetRole member role) is none typed =
    let a = passes (is_some (member_at roster member)) faults.NotMember _ none in
    (found_positive member roster.members is.positive a.0, typed)
change_written roster (AddDevice member device key) is none typed =
    let a = passes roster.upgraded faults.NotUpgraded _ none in
    let b = passes (is_some (member_at roster member)) faults.NotMember _ a.1 in
    ((found_positive member roster.members is.positive b.0, typed.0), typed.1, typed.2)
change_written roster (DropDevice member device) is none typed =
    let a = passes roster.upgraded faults.NotUpgraded _ none in
    let b = passes (is_some (member_at roster member)) faults.NotMember _ a.1 in
    ((found_positive member roster.members is.positive b.0, typed.0), typed.1)
change_written roster Upgrade is none typed = tt

-- and an entry of the version at this roster may be of its kind
pub kind_written : (roster : Roster) (change : MemberChange) → change_fault_of roster change ≡ None → has_kind (version_of roster.upgraded) (kind_of change) ≡ true
kind_written roster (Add member role key) none = either (λ u. has_kind (version_of u) 1) refl refl roster.upgraded
kind_written roster (Remove member) none = either (λ u. has_kind (version_of u) 2) refl refl roster.upgraded
kind_written roster (SetRole member role) none = either (λ u. has_kind (version_of u) 3) refl refl roster.upgraded
kind_written roster Upgrade none =
    ap (λ (u : Bool). has_kind (version_of u) (kind_of Upgrade)) (not-true roster.upgraded (passes (not roster.upgraded) faults.AlreadyUpgraded [] none).0)
kind_written roster change none = ap (λ (u : Bool). has_kind (version_of u) (kind_of change)) (passes roster.upgraded faults.NotUpgraded _ none).0

pub few_numbers : (roster : Roster) → IsFew roster → length (numbers_of roster.members) ≤ MAX_MEMBERS
few_numbers roster is = omega (arith, length-map roster.members (λ (m : Member). m.member), is.few)

-- ---- what sealing a change asks

pub record CanSeal (change : MemberChange) (members : List ℕ) : Type 0 where
  pub is_change : IsChange change
  pub few : length members ≤ MAX_MEMBERS

pub can_seal : (line : LineModel) (change : MemberChange) (members : List ℕ) → CanTake line (items.Change change) → IsGenesis line.genesis → IsTypedChange change
    → members ≡ numbers_of (after_change (roster_of line.genesis line.entries) change).members → CanSeal change members
can_seal line change members may genesis typed are =
    let roster = roster_of line.genesis line.entries in
    let few = few_members line.genesis line.kit line.entries genesis may.good in
    record {
      is_change = change_written roster change few may.fits.0 typed;
      few = omega (arith, ap length are, few_numbers (after_change roster change) (few_after roster change few may.fits.0));
    }

-- what is sealed, as its parts are found
pub sealed_same : (s t : Sealing) (pairs kit : Keys) (body : ChangeBody) → change_sealed s pairs ≡ Ok body → s ≡ t → pairs ≡ kit → body ≡ body_sealed t kit
sealed_same s t pairs kit body h same keys = (sealed s pairs body h).0 ∙ ap (λ (s : Sealing). body_sealed s pairs) same ∙ ap (body_sealed t) keys

-- no member is without a pairwise key
pub all_paired : (s : Sealing) (pairs kit : Keys) (members : List ℕ) (member : ℕ) → s.members ≡ members → pairs ≡ kit → least_unpaired kit members ≡ None → change_sealed s pairs ≡ Err (NoPairKey member) → ⊥
unfolding change_sealed
all_paired s pairs kit members member are keys none h =
    let paired : least_unpaired pairs s.members ≡ None = ap (least_unpaired pairs) are ∙ ap (λ (keys : Keys). least_unpaired keys members) keys ∙ none in
    let ok : Ok (body_sealed s pairs) ≡ Err (NoPairKey member) = sym (ap (body_unless (body_sealed s pairs)) paired) ∙ h in
    absurd cc

-- ---- there is a member after a change that they accept

pub record IsSomeMember (members : List ℕ) : Type 0 where
  pub first : ℕ
  pub others : List ℕ
  pub are : members ≡ first ∷ others

some_admin : (members : List Member) → list_any (λ m. is_admin m.role) members ≡ true → IsSomeMember (numbers_of members)
some_admin [] h = absurd cc
some_admin (m ∷ members) h = record { first = m.member; others = numbers_of members; are = refl }

some_inserted : (m : Member) (members : List Member) → IsSomeMember (numbers_of (insert_sorted m members))
some_inserted m [] = record { first = m.member; others = []; are = refl }
some_inserted m (n ∷ members) = go (nat_lt m.member n.member)
  where
    go : (before : Bool) → IsSomeMember (numbers_of (cond before (m ∷ n ∷ members) (n ∷ insert_sorted m members)))
    go true = record { first = m.member; others = n.member ∷ numbers_of members; are = refl }
    go false = record { first = n.member; others = numbers_of (insert_sorted m members); are = refl }

some_found : (me : ℕ) (members : List Member) → is_some (find (λ (m : Member). m.member == me) members) ≡ true → IsSomeMember (numbers_of members)
some_found me [] h = absurd cc
some_found me (m ∷ members) h = record { first = m.member; others = numbers_of members; are = refl }

-- of a member
pub some_member : (roster : Roster) (change : MemberChange) (me : ℕ) → is_some (member_at roster me) ≡ true → change_fault_of roster change ≡ None → IsSomeMember (numbers_of (after_change roster change).members)
some_member roster (Add member role key) me there none = some_inserted (record { member = member; role = role }) roster.members
some_member roster (Remove member) me there none =
    let a = passes (is_some (member_at roster member)) faults.NotMember _ none in
    let b = passes (has_admin (after_change roster (Remove member))) faults.LastAdmin _ a.1 in
    some_admin (after_change roster (Remove member)).members b.0
some_member roster (SetRole member role) me there none =
    let a = passes (is_some (member_at roster member)) faults.NotMember _ none in
    let b = passes (not (has_role (member_at roster member) role)) faults.SameRole _ a.1 in
    let d = passes (has_admin (after_change roster (SetRole member role))) faults.LastAdmin _ b.1 in
    some_admin (after_change roster (SetRole member role)).members d.0
some_member roster change me there none = some_found me roster.members there

-- ---- the first has a pairwise key

pub paired_first : (pairs : Keys) (m : ℕ) (ms : List ℕ) → least_unpaired pairs (m ∷ ms) ≡ None → (pair : List ℕ) × (get pairs m ≡ Some pair)
paired_first pairs m ms h =
    let both = first_paired pairs m ms h in
    go (get pairs m) refl both.0
  where
    go : (o : Option (List ℕ)) → get pairs m ≡ o → is_none o ≡ false → (pair : List ℕ) × (get pairs m ≡ Some pair)
    go None is none = absurd cc
    go (Some pair) is none = (pair, is)
