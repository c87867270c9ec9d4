-- The people of a document: each number that ever was a member's, with its role and its devices.
use Rattle.std.specs.Prelude.{◌≡◌, ℕ, ◌==◌, Bool, true, ◌&&◌, nat_lt, nat_le, List, [], ◌∷◌}
use Rattle.std.specs.Prelude.{length, Option, is_some, if◌then◌else◌, filter, map, option_map}
use Rattle.std.specs.List.{list_all, list_any, filter_map, flat_map}
use Rattle.sporc_member.specs.declared.limits.TheConstants.{MAX_DEVICES, MAX_MEMBERS}
use Rattle.sporc_member.specs.declared.device.KeyedDevice.{KeyedDevice}
use Rattle.sporc_member.specs.declared.member.Member.{Member}
use Rattle.sporc_member.specs.declared.people.Owned.{Owned}
use Rattle.sporc_member.specs.declared.people.Person.{Person}
use Rattle.sporc_member.specs.Role.{is_admin}
use Rattle.sporc_member.specs.Roster.{Roster, member_at}
use Rattle.sporc_member.specs.RosterModel.{has_device}

-- ---- the people of a roster

-- a device that was used, and whether it is live
abbrev pub owned_of : Roster → KeyedDevice → Owned
owned_of roster d = record {
  device = d.device.number;
  live = has_device d.device roster.devices;
  key = d.key;
}

-- who has this number, or had it
abbrev pub person_of : Roster → ℕ → Person
person_of roster number = record {
  member = number;
  role = option_map (λ m. m.role) (member_at roster number);
  devices = map (owned_of roster) (filter (λ d. d.device.member == number) roster.ever);
}

-- all of them, in ascending order
abbrev pub people_of : Roster → List Person
people_of roster = map (person_of roster) roster.used

-- ---- the roster of people

-- the member that a person is, if it has a role
abbrev pub member_in : Person → Option Member
member_in p = option_map (λ role. record { member = p.member; role = role }) p.role

-- a device of a member
abbrev pub keyed : ℕ → Owned → KeyedDevice
keyed member o = record { device = record { member = member; number = o.device }; key = o.key }

-- the devices that a person ever used, and the live ones
abbrev pub ever_of : Person → List KeyedDevice
ever_of p = map (keyed p.member) p.devices

abbrev pub live_of : Person → List KeyedDevice
live_of p = map (keyed p.member) (filter (λ o. o.live) p.devices)

abbrev pub roster_of_people : List Person → Bool → Roster
roster_of_people people upgraded = record {
  members = filter_map member_in people;
  used = map (λ p. p.member) people;
  devices = flat_map live_of people;
  ever = flat_map ever_of people;
  upgraded = upgraded;
}

-- ---- which people a roster has

-- whether each number is below all behind it
abbrev pub ascend : List ℕ → Bool
ascend [] = true
ascend (n ∷ ns) = list_all (nat_lt n) ns && ascend ns

-- how many devices of a person are live
abbrev pub live_count : Person → ℕ
live_count p = length (filter (λ o. o.live) p.devices)

-- whether a person has live devices as its role wants them: from 1 to 8, and none without a role
abbrev pub has_its_devices : Person → Bool
has_its_devices p = if is_some p.role
    then nat_le 1 (live_count p) && nat_le (live_count p) MAX_DEVICES
    else live_count p == 0

-- whether they are the people of a roster: numbers ascend, at most 64 have a role, among them an
-- admin, and each has its live devices
abbrev pub can_restore : List Person → Bool
can_restore people = ascend (map (λ p. p.member) people)
    && (list_all (λ p. ascend (map (λ o. o.device) p.devices)) people
    && (nat_le (length (filter_map member_in people)) MAX_MEMBERS
    && (list_any (λ m. is_admin m.role) (filter_map member_in people)
    && list_all has_its_devices people)))

abbrev pub CanRestore : List Person → Type 0
CanRestore people = can_restore people ≡ true
