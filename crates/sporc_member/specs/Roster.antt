-- The members of a document and their devices, as its changes make them from the founders.
use Rattle.std.specs.Prelude.{ℕ, ◌==◌, Bool, true, false, not, ◌&&◌, nat_lt, List, [], ◌∷◌}
use Rattle.std.specs.Prelude.{length, Option, None, Some, is_some, if◌then◌else◌, filter, find, map}
use Rattle.std.specs.Prelude.{option_map, fold}
use Rattle.std.specs.List.{list_any}
use Rattle.lms_tree.specs.LmsPublic.{public_key_in}
use Rattle.sporc_member.specs.declared.limits.TheConstants.{MAX_DEVICES, MAX_MEMBERS}
use Rattle.sporc_member.specs.declared.role.Role.{Role}
use Rattle.sporc_member.specs.declared.change.Change.{Change}
use Rattle.sporc_member.specs.declared.change.Change.TheVariants.{Add, Remove, SetRole, AddDevice}
use Rattle.sporc_member.specs.declared.change.Change.TheVariants.{DropDevice, Upgrade}
use Rattle.sporc_member.specs.declared.change.ChangeFault.{ChangeFault}
use Rattle.sporc_member.specs.declared.change.ChangeFault.TheVariants.{NumberUsed, NotMember}
use Rattle.sporc_member.specs.declared.change.ChangeFault.TheVariants.{SameRole, LastAdmin}
use Rattle.sporc_member.specs.declared.change.ChangeFault.TheVariants.{RosterFull, BadKey}
use Rattle.sporc_member.specs.declared.change.ChangeFault.TheVariants.{DeviceUsed, NoDevice}
use Rattle.sporc_member.specs.declared.change.ChangeFault.TheVariants.{LastDevice, DevicesFull}
use Rattle.sporc_member.specs.declared.change.ChangeFault.TheVariants.{NotUpgraded, AlreadyUpgraded}
use Rattle.sporc_member.specs.declared.device.Device.{Device}
use Rattle.sporc_member.specs.declared.device.KeyedDevice.{KeyedDevice}
use Rattle.sporc_member.specs.declared.founder.Founder.{Founder}
use Rattle.sporc_member.specs.declared.member.Member.{Member}
use Rattle.sporc_member.specs.Device.{first_device, same_device, insert_device}
use Rattle.sporc_member.specs.Lists.{insert_by}
use Rattle.sporc_member.specs.Role.{same_role, is_admin}
use Rattle.sporc_base.specs.FirstFault.{unless, first_of}

-- the members, the numbers that ever were members', the live devices and all that ever were
-- devices, each in ascending order; and whether the document was upgraded
pub record Roster : Type 0 where
  pub members : List Member
  pub used : List ℕ
  pub devices : List KeyedDevice
  pub ever : List KeyedDevice
  pub upgraded : Bool

-- ---- what a roster says

-- the numbers of members
abbrev pub numbers_of : List Member → List ℕ
numbers_of members = map (λ m. m.member) members

-- the member with this number
abbrev pub member_at : Roster → ℕ → Option Member
member_at roster number = find (λ m. m.member == number) roster.members

-- the key of a live device
abbrev pub key_of : Roster → Device → Option (List ℕ)
key_of roster who = option_map (λ d. d.key) (find (λ d. same_device d.device who) roster.devices)

-- the numbers of a member's live devices
abbrev pub devices_of : Roster → ℕ → List ℕ
devices_of roster number =
    map (λ d. d.device.number) (filter (λ d. d.device.member == number) roster.devices)

-- whether a number was ever a member's
abbrev pub is_used : Roster → ℕ → Bool
is_used roster number = list_any (λ n. n == number) roster.used

-- whether a device ever was one
abbrev pub is_device_used : Roster → Device → Bool
is_device_used roster device = list_any (λ d. same_device d.device device) roster.ever

-- whether a roster has an admin
abbrev pub has_admin : Roster → Bool
has_admin roster = list_any (λ m. is_admin m.role) roster.members

-- whether the member with this number, if there is one, has this role
abbrev pub has_role : Option Member → Role → Bool
has_role None role = false
has_role (Some m) role = same_role m.role role

-- ---- the roster after a change

-- a member among those in order
abbrev pub insert_sorted : Member → List Member → List Member
insert_sorted m members = insert_by (λ m. m.member) m members

-- the member, once the one with this number has this role
abbrev pub with_role : ℕ → Role → Member → Member
with_role number role m = record m { role = if m.member == number then role else m.role }

-- with a device more
abbrev pub with_device : Device → List ℕ → Roster → Roster
with_device device key roster = record roster {
  devices = insert_device (record { device = device; key = key }) roster.devices;
  ever = insert_device (record { device = device; key = key }) roster.ever;
}

-- with those live devices alone that pass a test
abbrev pub with_devices : (Device → Bool) → Roster → Roster
with_devices stays roster = record roster { devices = filter (λ d. stays d.device) roster.devices }

-- the roster after a change
abbrev pub after_change : Roster → Change → Roster
after_change roster (Add m role key) = with_device (first_device m) key (record roster {
  members = insert_sorted (record { member = m; role = role }) roster.members;
  used = insert_by (λ n. n) m roster.used;
})
after_change roster (Remove m) = with_devices (λ d. not (d.member == m))
    (record roster { members = filter (λ x. not (x.member == m)) roster.members })
after_change roster (SetRole m r) = record roster { members = map (with_role m r) roster.members }
after_change roster (AddDevice m n key) = with_device (record { member = m; number = n }) key roster
after_change roster (DropDevice m n) =
    with_devices (λ d. not (same_device d (record { member = m; number = n }))) roster
after_change roster Upgrade = record roster { upgraded = true }

-- ---- why a roster refuses a change

-- the checks of a change, in their order
abbrev pub change_checks : Roster → Change → List (Option ChangeFault)
change_checks roster (Add member role key) =
    unless (not (member == 0) && not (is_used roster member)) NumberUsed
    ∷ unless (nat_lt (length roster.members) MAX_MEMBERS) RosterFull
    ∷ unless (is_some (public_key_in key)) BadKey
    ∷ []
change_checks roster (Remove member) =
    unless (is_some (member_at roster member)) NotMember
    ∷ unless (has_admin (after_change roster (Remove member))) LastAdmin
    ∷ []
change_checks roster (SetRole member role) =
    unless (is_some (member_at roster member)) NotMember
    ∷ unless (not (has_role (member_at roster member) role)) SameRole
    ∷ unless (has_admin (after_change roster (SetRole member role))) LastAdmin
    ∷ []
change_checks roster (AddDevice member device key) =
    unless roster.upgraded NotUpgraded
    ∷ unless (is_some (member_at roster member)) NotMember
    ∷ unless (not (is_device_used roster (record { member = member; number = device }))) DeviceUsed
    ∷ unless (nat_lt (length (devices_of roster member)) MAX_DEVICES) DevicesFull
    ∷ unless (is_some (public_key_in key)) BadKey
    ∷ []
change_checks roster (DropDevice member device) =
    unless roster.upgraded NotUpgraded
    ∷ unless (is_some (member_at roster member)) NotMember
    ∷ unless (is_some (key_of roster (record { member = member; number = device }))) NoDevice
    ∷ unless (nat_lt 1 (length (devices_of roster member))) LastDevice
    ∷ []
change_checks roster Upgrade =
    unless (not roster.upgraded) AlreadyUpgraded
    ∷ []

-- why a roster refuses a change, if it does
abbrev pub change_fault_of : Roster → Change → Option ChangeFault
change_fault_of roster change = first_of (change_checks roster change)

-- ---- histories of changes

-- a founder as a member, and its first device
abbrev pub member_by : Founder → Member
member_by f = record { member = f.member; role = f.role }

abbrev pub device_by : Founder → KeyedDevice
device_by f = record { device = first_device f.member; key = f.key }

-- the numbers of founders
abbrev pub founder_numbers : List Founder → List ℕ
founder_numbers founders = map (λ f. f.member) founders

-- the roster at the beginning
abbrev pub founded : List Founder → Roster
founded founders = record {
  members = map member_by founders;
  used = map (λ f. f.member) founders;
  devices = map device_by founders;
  ever = map device_by founders;
  upgraded = false;
}

-- the roster after changes, in their order
abbrev pub roster_after : List Founder → List Change → Roster
roster_after founders changes = fold after_change (founded founders) changes

-- whether a change removes a device, or its member
abbrev pub removes : Device → Change → Bool
removes device (Remove m) = m == device.member
removes device (DropDevice m n) = same_device (record { member = m; number = n }) device
removes device _ = false
