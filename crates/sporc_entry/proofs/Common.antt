-- The names of this crate and of those below that many of its proofs cite, passed on from one place.
pub use Rattle.std.proofs.lemmas.Bool.{and_parts, eqb-false, eqb-true, leb-true, ltb-false, ne_eqb}
pub use Rattle.std.proofs.lemmas.List.{append-nil, drop_at, length-drop, length-take, take_at}
pub use Rattle.std.proofs.lemmas.Result.{err_from_is_err_and}
pub use Rattle.std.specs.Int.{Width, byte_len, to_be_bytes, w16, w32, w8}
pub use Rattle.std.specs.List.{AllByRecursion, flat_map}
pub use Rattle.std.specs.Prelude.{IfOk, MatchResult, option_map, ◌&&◌, ◌==◌, ◌||◌}
pub use Rattle.sporc_base.specs.Bytes.{IsBytes}
pub use Rattle.sporc_base.specs.Outcome.{GivesUnless}
pub use Rattle.sporc_bytes.proofs.Fields.{Takes, Takes-nothing, Takes-then, bind_ok, byte_again, byte_takes, bytes_again, bytes_takes, counted_again, counted_takes, end_takes, fault_as_ok}
pub use Rattle.sporc_bytes.proofs.Fields.{number_takes, ok_is, only_if_ok, present_ok, u16_again, u16_within_again, u32_again, u8_again, wide16, wide32, wide8, within_takes}
pub use Rattle.sporc_bytes.proofs.Lists.{AreSoFar, ascending_begins, ascending_ends, ascending_goes_on, ascending_is_done, ends, goes_on, is_done, with_front}
pub use Rattle.sporc_bytes.specs.Fields.{Reading, bytes_at, counted, counted_at, end_at, fault_as, number_at, number_within, only_if, present, values_at, ◌>>=◌}
pub use Rattle.sporc_member.specs.Role.{role_code_of, role_with_code}
pub use Rattle.sporc_member.specs.declared.change.Change.TheVariants.{Add, AddDevice, DropDevice, Remove, SetRole, Upgrade}
pub use Rattle.sporc_member.specs.declared.limits.TheConstants.{MAX_MEMBERS}
pub use Rattle.sporc_entry.specs.ChangeBody.{IsChangeBody, SpellsChange, change_body_at, change_body_from, wrap_at, wrap_bytes}
pub use Rattle.sporc_entry.specs.Entry.{IsEntry, body_limit, body_read, counted_bytes, device_at, device_bytes, entry_of, signed_string}
pub use Rattle.sporc_entry.specs.Genesis.{accepted, founder_at, founder_bytes, tested}
pub use Rattle.sporc_entry.specs.Skimming.{left_by}
pub use Rattle.sporc_entry.specs.Version.{body_place, fits_version, has_kind, header_len, names_device}
pub use Rattle.sporc_entry.specs.declared.change.ChangeBody.{ChangeBody}
pub use Rattle.sporc_entry.specs.declared.entry.Entry.{Entry}
pub use Rattle.sporc_entry.specs.declared.fault.EntryFault.TheVariants.{Malformed, Memory}
pub use Rattle.sporc_entry.specs.declared.header.Header.{Header}
pub use Rattle.sporc_entry.specs.declared.limits.TheConstants.{HIGHEST_MEMBER, MAX_CHANGE_BODY, MAX_EDIT_BODY, MAX_ENTRY, MAX_SIGNATURE}
pub use Rattle.sporc_entry.specs.declared.version.TheConstants.{ADD, ADD_DEVICE, DEVICES_VERSION, DROP_DEVICE, FIRST_VERSION, REMOVE, SET_ROLE, UPGRADE}
