-- Worked examples: changes of a document that one admin founded.
use Rattle.std.proofs.Common.{◌≡◌, ℕ, [], ◌∷◌, Bool, List, Option, refl, Some, None, replicate, true, false}
use Rattle.sporc_member.proofs.Common.{fold, map, Add, Remove, SetRole, AddDevice, DropDevice, Upgrade, NumberUsed, NotMember, SameRole, LastAdmin, BadKey, DeviceUsed, NoDevice, LastDevice}
use Rattle.sporc_member.proofs.Common.{DevicesFull, NotUpgraded, AlreadyUpgraded, Roster, founded, after_change, change_fault_of, numbers_of, devices_of, key_of, removes}
use Rattle.sporc_member.specs.declared.people.Owned.{Owned}
use Rattle.sporc_member.specs.declared.people.Person.{Person}
use Rattle.sporc_member.specs.declared.role.Role.{Role}
use Rattle.sporc_member.specs.declared.role.Role.TheVariants.{Reader, Editor, Admin}
use Rattle.sporc_member.specs.People.{can_restore, people_of, roster_of_people}

-- founded by member 1, an admin
abbrev alone : Roster
alone = founded (record { member = 1; role = Admin; key = [] } ∷ [])

its_number_is_used : change_fault_of alone (Add 1 Reader []) ≡ Some NumberUsed
its_number_is_used = refl

zero_is_no_number : change_fault_of alone (Add 0 Reader []) ≡ Some NumberUsed
zero_is_no_number = refl

no_admin_would_be_left : change_fault_of alone (Remove 1) ≡ Some LastAdmin
no_admin_would_be_left = refl

it_is_an_admin : change_fault_of alone (SetRole 1 Admin) ≡ Some SameRole
it_is_an_admin = refl

it_stays_an_admin : change_fault_of alone (SetRole 1 Editor) ≡ Some LastAdmin
it_stays_an_admin = refl

two_is_no_member : change_fault_of alone (Remove 2) ≡ Some NotMember
two_is_no_member = refl

no_known_type : change_fault_of alone (Add 2 Editor (replicate 56 0)) ≡ Some BadKey
no_known_type = refl

-- a number is used still once its member is gone
abbrev without_two : Roster
without_two = after_change (after_change alone (Add 2 Editor [])) (Remove 2)

two_is_gone : numbers_of without_two.members ≡ 1 ∷ []
two_is_gone = refl

two_is_used : change_fault_of without_two (Add 2 Editor []) ≡ Some NumberUsed
two_is_used = refl

-- members stand in the order of their numbers
in_order : numbers_of (after_change (after_change alone (Add 9 Reader [])) (Add 4 Reader [])).members ≡ 1 ∷ 4 ∷ 9 ∷ []
in_order = refl

-- ---- devices

it_begins_with_device_zero : devices_of alone 1 ≡ 0 ∷ []
it_begins_with_device_zero = refl

no_device_before_the_upgrade : change_fault_of alone (AddDevice 1 1 []) ≡ Some NotUpgraded
no_device_before_the_upgrade = refl

none_dropped_before_it : change_fault_of alone (DropDevice 1 0) ≡ Some NotUpgraded
none_dropped_before_it = refl

may_be_upgraded : change_fault_of alone Upgrade ≡ None
may_be_upgraded = refl

abbrev upgraded : Roster
upgraded = after_change alone Upgrade

no_second_upgrade : change_fault_of upgraded Upgrade ≡ Some AlreadyUpgraded
no_second_upgrade = refl

device_zero_is_used : change_fault_of upgraded (AddDevice 1 0 []) ≡ Some DeviceUsed
device_zero_is_used = refl

its_only_device_stays : change_fault_of upgraded (DropDevice 1 0) ≡ Some LastDevice
its_only_device_stays = refl

it_has_no_device_three : change_fault_of upgraded (DropDevice 1 3) ≡ Some NoDevice
it_has_no_device_three = refl

two_has_no_devices : change_fault_of upgraded (AddDevice 2 1 []) ≡ Some NotMember
two_has_no_devices = refl

no_known_type_of_a_device : change_fault_of upgraded (AddDevice 1 1 (replicate 56 0)) ≡ Some BadKey
no_known_type_of_a_device = refl

-- with devices 7, 2, 5, .. in this order, each with its number for a key
abbrev with_devices : List ℕ → Roster
with_devices numbers = fold after_change upgraded (map (λ n. AddDevice 1 n (n ∷ [])) numbers)

devices_in_order : devices_of (with_devices (7 ∷ 2 ∷ 5 ∷ [])) 1 ≡ 0 ∷ 2 ∷ 5 ∷ 7 ∷ []
devices_in_order = refl

each_has_its_key : key_of (with_devices (7 ∷ 2 ∷ 5 ∷ [])) (record { member = 1; number = 5 }) ≡ Some (5 ∷ [])
each_has_its_key = refl

another_members_devices : devices_of (after_change (with_devices (7 ∷ [])) (Add 2 Editor [])) 2 ≡ 0 ∷ []
another_members_devices = refl

-- a ninth is refused while eight are live, and one more may be had where one is dropped
abbrev with_eight : Roster
with_eight = with_devices (1 ∷ 2 ∷ 3 ∷ 4 ∷ 5 ∷ 6 ∷ 7 ∷ [])

no_ninth : change_fault_of with_eight (AddDevice 1 8 []) ≡ Some DevicesFull
no_ninth = refl

-- a device that was dropped
abbrev without_three : Roster
without_three = after_change with_eight (DropDevice 1 3)

three_is_gone : devices_of without_three 1 ≡ 0 ∷ 1 ∷ 2 ∷ 4 ∷ 5 ∷ 6 ∷ 7 ∷ []
three_is_gone = refl

its_key_too : key_of without_three (record { member = 1; number = 3 }) ≡ None
its_key_too = refl

its_number_is_never_used_again : change_fault_of without_three (AddDevice 1 3 []) ≡ Some DeviceUsed
its_number_is_never_used_again = refl

not_dropped_twice : change_fault_of without_three (DropDevice 1 3) ≡ Some NoDevice
not_dropped_twice = refl

-- also device 0 may be dropped
device_zero_may_go : change_fault_of with_eight (DropDevice 1 0) ≡ None
device_zero_may_go = refl

-- who leaves has no devices
no_devices_left : devices_of (after_change (after_change with_eight (Add 2 Editor [])) (Remove 1)) 1 ≡ []
no_devices_left = refl

-- a change removes the devices of a member, or one
removed_with_its_member : removes (record { member = 1; number = 3 }) (Remove 1) ≡ true
removed_with_its_member = refl

removed_alone : removes (record { member = 1; number = 3 }) (DropDevice 1 3) ≡ true
removed_alone = refl

another_stays : removes (record { member = 1; number = 2 }) (DropDevice 1 3) ≡ false
another_stays = refl

-- ---- people

abbrev owned : ℕ → Bool → Owned
owned device live = record { device = device; live = live; key = [] }

abbrev person : ℕ → Option Role → List Owned → Person
person member role devices = record { member = member; role = role; devices = devices }

-- who left keeps a number and a device that was used
abbrev one_of_two : List Person
one_of_two = person 1 (Some Admin) (owned 0 true ∷ []) ∷ person 2 None (owned 0 false ∷ []) ∷ []

two_left : people_of without_two ≡ one_of_two
two_left = refl

two_can_be_restored : can_restore one_of_two ≡ true
two_can_be_restored = refl

two_is_gone_still : roster_of_people one_of_two false ≡ without_two
two_is_gone_still = refl

-- a dropped device too
three_stays_dropped : roster_of_people (people_of without_three) true ≡ without_three
three_stays_dropped = refl

-- a number may stand without a device, and is used
without_a_device : can_restore (person 1 (Some Admin) (owned 0 true ∷ []) ∷ person 2 None [] ∷ []) ≡ true
without_a_device = refl

it_is_used_too : change_fault_of (roster_of_people (person 2 None [] ∷ []) false) (Add 2 Editor []) ≡ Some NumberUsed
it_is_used_too = refl

-- an admin is needed, each member needs a device, and who is none has no live one
no_admin : can_restore (person 1 (Some Editor) (owned 0 true ∷ []) ∷ []) ≡ false
no_admin = refl

no_live_device : can_restore (person 1 (Some Admin) (owned 0 false ∷ []) ∷ []) ≡ false
no_live_device = refl

no_role : can_restore (person 1 (Some Admin) (owned 0 true ∷ []) ∷ person 2 None (owned 0 true ∷ []) ∷ []) ≡ false
no_role = refl

not_ascending : can_restore (person 2 (Some Admin) (owned 0 true ∷ []) ∷ person 2 None [] ∷ []) ≡ false
not_ascending = refl
