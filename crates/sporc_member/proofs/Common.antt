-- The names of this crate and of those below that many of its proofs cite, passed on from one place.
pub use Rattle.std.proofs.lemmas.Bool.{and_from, and_parts, eq-eqb, eqb-false, eqb-true, false_from_ne_true, leb-false, leb-true, ltb-false, ltb-true, or_parts}
pub use Rattle.std.proofs.lemmas.Fn.{filter_same}
pub use Rattle.std.proofs.lemmas.List.{drop-map, length-map, map-append, take-append-drop, take-map}
pub use Rattle.std.specs.List.{insert, list_any}
pub use Rattle.std.specs.Prelude.{find, fold, map, option_map, vec_capacity, ◌&&◌, ◌||◌}
pub use Rattle.sporc_member.specs.Device.{device_place, first_device, insert_device, is_before, place_from, same_device}
pub use Rattle.sporc_member.specs.Lists.{insert_by, place_among}
pub use Rattle.sporc_member.specs.Roster.{Roster, after_change, change_fault_of, device_by, devices_of, founded, founder_numbers, insert_sorted, is_device_used, is_used, key_of, member_at, member_by, numbers_of}
pub use Rattle.sporc_member.specs.Roster.{removes, with_role}
pub use Rattle.sporc_member.specs.RosterModel.{AreFirst, AreInOrder, IsSound, RosterModel, StandsBefore, has_device, has_one_of, roster_in}
pub use Rattle.sporc_member.specs.declared.change.Change.TheVariants.{Add, AddDevice, DropDevice, Remove, SetRole, Upgrade}
pub use Rattle.sporc_member.specs.declared.change.ChangeFault.TheVariants.{AlreadyUpgraded, BadKey, DeviceUsed, DevicesFull, LastAdmin, LastDevice, NoDevice, NotMember, NotUpgraded, NumberUsed}
pub use Rattle.sporc_member.specs.declared.change.ChangeFault.TheVariants.{RosterFull, SameRole}
pub use Rattle.sporc_member.specs.declared.device.Device.{Device}
pub use Rattle.sporc_member.specs.declared.device.KeyedDevice.{KeyedDevice}
pub use Rattle.sporc_member.specs.declared.founder.Founder.{Founder}
pub use Rattle.sporc_member.specs.declared.member.Member.{Member}
