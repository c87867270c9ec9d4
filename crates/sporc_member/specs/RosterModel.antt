-- What contracts see of a `Roster`, and what its fields keep.
use Rattle.std.specs.Prelude.{◌≡◌, ℕ, ◌-◌, ◌≤◌, ◌==◌, Bool, true, false, min, List, [], ◌∷◌, length}
use Rattle.std.specs.Prelude.{map, filter, vec_len, vec_capacity}
use Rattle.std.specs.List.{list_any}
use Rattle.std.specs.List.Sorted.{IsStrictlyIncreasing}
use Rattle.sporc_member.specs.declared.limits.TheConstants.{MAX_MEMBERS}
use Rattle.sporc_member.specs.declared.device.Device.{Device}
use Rattle.sporc_member.specs.declared.device.KeyedDevice.{KeyedDevice}
use Rattle.sporc_member.specs.declared.device.TheConstants.{FIRST_DEVICE}
use Rattle.sporc_member.specs.declared.roster.Roster.TheInside.{Inside}
use Rattle.sporc_member.specs.Device.{same_device, is_before}
use Rattle.sporc_member.specs.Roster.{Roster, numbers_of, is_used}

-- ---- what every roster keeps, from the founders through each change

-- whether a list has a device, and whether it has one of a member
abbrev pub has_device : Device → List KeyedDevice → Bool
has_device device devices = list_any (λ d. same_device d.device device) devices

abbrev pub has_one_of : ℕ → List KeyedDevice → Bool
has_one_of member devices = list_any (λ d. d.device.member == member) devices

-- devices in order: each stands before all behind it
abbrev pub StandsBefore : Device → List KeyedDevice → Type 0
StandsBefore device [] = Unit {0}
StandsBefore device (d ∷ ds) = (is_before device d.device ≡ true) × StandsBefore device ds

abbrev pub AreInOrder : List KeyedDevice → Type 0
AreInOrder [] = Unit {0}
AreInOrder (d ∷ ds) = StandsBefore d.device ds × AreInOrder ds

-- the numbers of members ascend, and so do those ever used, among which they are; the devices ever
-- used are in order, each of a number that was used; and the live ones are some of these, in their
-- order, each of a member
pub record IsSound (roster : Roster) : Type 0 where
  pub ascending : IsStrictlyIncreasing (numbers_of roster.members)
  pub room : length roster.members ≤ MAX_MEMBERS
  pub used : IsStrictlyIncreasing roster.used
  pub among : (n : ℕ) → list_any (λ m. m == n) (numbers_of roster.members) ≡ true
      → is_used roster n ≡ true
  pub ever : AreInOrder roster.ever
  pub owned : (n : ℕ) → has_one_of n roster.ever ≡ true → is_used roster n ≡ true
  pub live : roster.devices ≡ filter (λ d. has_device d.device roster.devices) roster.ever
  pub belong : (n : ℕ) → has_one_of n roster.devices ≡ true
      → list_any (λ m. m == n) (numbers_of roster.members) ≡ true

-- up to the Upgrade only first devices are live, in a document whose founders began so
abbrev pub AreFirst : List KeyedDevice → Bool → Type 0
AreFirst devices upgraded = upgraded ≡ false → (device : Device)
    → has_device device devices ≡ true → device.number ≡ FIRST_DEVICE

-- ---- the fields

-- the roster, and how many changes it can make without memory
pub record RosterModel : Type 0 where
  pub roster : Roster
  pub spare : ℕ

-- the members and their devices, those of now and those ever used
abbrev pub roster_in : Inside → Roster
roster_in a = record {
  members = a.members.items;
  used = a.used.items;
  devices = a.devices.items;
  ever = a.ever.items;
  upgraded = a.upgraded;
}

-- the room that each list has
abbrev pub spare_in : Inside → ℕ
spare_in a = min
    (min (vec_capacity a.members - vec_len a.members) (vec_capacity a.numbers - vec_len a.numbers))
    (min (min (vec_capacity a.devices - vec_len a.devices) (vec_capacity a.device_numbers
    - vec_len a.device_numbers))
    (min (vec_capacity a.used - vec_len a.used) (vec_capacity a.ever - vec_len a.ever)))

abbrev pub model_of : Inside → RosterModel
model_of a = record { roster = roster_in a; spare = spare_in a }

-- the numbers beside the members and beside the live devices are theirs
pub record RosterInvariant (a : Inside) : Type 0 where
  pub sound : IsSound (roster_in a)
  pub numbers : a.numbers.items ≡ numbers_of a.members.items
  pub device_numbers : a.device_numbers.items ≡ map (λ d. d.device.number) a.devices.items

abbrev pub invariant_of : Inside → Type 0
invariant_of a = RosterInvariant a
