-- Devices of members, and their order.
use Rattle.std.specs.Prelude.{ℕ, ◌<◌, ◌^◌, ◌==◌, Bool, ◌&&◌, ◌||◌, nat_lt, nat_le, List}
use Rattle.std.specs.List.{insert, position_or_len}
use Rattle.sporc_member.specs.declared.device.Device.{Device}
use Rattle.sporc_member.specs.declared.device.KeyedDevice.{KeyedDevice}
use Rattle.sporc_member.specs.declared.device.TheConstants.{FIRST_DEVICE}

-- a member's number
abbrev pub IsMember : ℕ → Type 0
IsMember member = (0 < member) × (member < 2 ^ 16)

-- the device that a member begins with
abbrev pub first_device : ℕ → Device
first_device member = record { member = member; number = FIRST_DEVICE }

abbrev pub same_device : Device → Device → Bool
same_device a b = (a.member == b.member) && (a.number == b.number)

-- whether a device stands before another in the order of members, and of a member's numbers
abbrev pub is_before : Device → Device → Bool
is_before a b = nat_lt a.member b.member || ((a.member == b.member) && nat_lt a.number b.number)

-- the place of a device among others in order: before the first that it stands before
abbrev pub device_place : Device → List KeyedDevice → ℕ
device_place device devices = position_or_len (λ d. is_before device d.device) devices

-- a device among others in order
abbrev pub insert_device : KeyedDevice → List KeyedDevice → List KeyedDevice
insert_device d devices = insert devices (device_place d.device devices) d

-- the place of the first device of a member from this number on, among others in order
abbrev pub place_from : ℕ → List KeyedDevice → ℕ
place_from member devices = position_or_len (λ d. nat_le member d.device.member) devices
