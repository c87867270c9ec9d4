-- The names of this crate and of those below that many of its proofs cite, passed on from one place.
pub use Rattle.std.proofs.lemmas.Bool.{and_parts, eq-eqb, eqb-true, leb-true, true≢false}
pub use Rattle.std.proofs.lemmas.Bool.Decides.{nat_tests}
pub use Rattle.std.proofs.lemmas.List.{append-nil, drop_all, length-append, length-drop, length-map, length-take, map-append, map_more, take_all, take_more}
pub use Rattle.std.proofs.lemmas.List.Elements.{filter_map-append}
pub use Rattle.std.proofs.lemmas.Result.{err_from_is_err_and}
pub use Rattle.std.proofs.lemmas.Slice.Eq.{bytes_eq-Decides}
pub use Rattle.std.specs.Int.{Width, to_be_bytes, w16, w32, w8}
pub use Rattle.std.specs.List.{AllByRecursion, cons_option, flat_map, list_any, zip}
pub use Rattle.std.specs.List.Sorted.{IsStrictlyIncreasing}
pub use Rattle.std.specs.Prelude.{Contains, IfOk, IfSome, bytes_eq, codes, filter_map, find, nat_eq, option_map, replicate, take, ◌&&◌, ◌==◌, ◌||◌}
pub use Rattle.lms_ots.specs.OtsType.{ots_code_of}
pub use Rattle.lms_ots.specs.declared.ots_type.OtsType.TheVariants.{W4, W8}
pub use Rattle.lms_tree.specs.LmsType.{height_of, lms_code_of}
pub use Rattle.lms_tree.specs.declared.lms_type.LmsType.TheVariants.{H10, H15, H5}
pub use Rattle.sporc_base.proofs.ListLemmas.{all_append, found_passes}
pub use Rattle.sporc_base.specs.Bytes.{IsBytes}
pub use Rattle.sporc_base.specs.Outcome.{GivesUnless}
pub use Rattle.sporc_bytes.proofs.Ascending.{Ascends, ascends_below, ascends_increasing, increasing_from_zero}
pub use Rattle.sporc_bytes.proofs.Fields.{IsWide, Takes, Takes-then, bind_ok, byte_again, byte_is, byte_takes, bytes_again, bytes_takes, end_takes, fault_as_ok, number_again, number_takes, ok_is, only_if_ok}
pub use Rattle.sporc_bytes.proofs.Fields.{present_ok, u16_again, u16_within_again, u32_again, wide16, wide32, wide8, within_takes}
pub use Rattle.sporc_bytes.proofs.Lists.{AreSoFar, ascending_begins, ascending_ends, ascending_goes_on, ascending_is_done}
pub use Rattle.sporc_bytes.specs.Fields.{Reading, bytes_at, end_at, fault_as, number_at, number_within, only_if, present, ◌>>=◌}
pub use Rattle.sporc_outside.specs.Told.{AppendsItem}
pub use Rattle.sporc_member.specs.Device.{IsMember, first_device, same_device}
pub use Rattle.sporc_member.specs.Lists.{place_among}
pub use Rattle.sporc_member.specs.declared.device.Device.{Device}
pub use Rattle.sporc_member.specs.declared.device.TheConstants.{FIRST_DEVICE}
pub use Rattle.sporc_member.specs.declared.limits.TheConstants.{MAX_MEMBERS}
pub use Rattle.sporc_entry.proofs.FieldLaws.{Leaves}
pub use Rattle.sporc_keys.specs.Drawn.{DrawsWords, DrawsWordsUpTo}
pub use Rattle.sporc_keys.specs.Fields.{whole}
pub use Rattle.sporc_keys.specs.Founding.{IsKnownKey, SharesMore, epoch_key_of, founders_in, genesis_of, in_order, insert_named, number_of, numbers_in, numbers_of, pair_keys_of, pairs_of, ring_of}
pub use Rattle.sporc_keys.specs.Founding.{row, shared_by, shared_keys, words_for}
pub use Rattle.sporc_keys.specs.KeyFile.{IsKeyFile, device_number_bytes, format_of, key_file_of, place_of_other}
pub use Rattle.sporc_keys.specs.RingFile.{IsPairKey, IsRingFile, members_of, pair_at, pair_bytes, pair_keys, ring_file_at}
pub use Rattle.sporc_keys.specs.declared.fault.RingFileFault.TheVariants.{Malformed, Memory}
pub use Rattle.sporc_keys.specs.declared.key_file.KeyFile.{KeyFile}
pub use Rattle.sporc_keys.specs.declared.named.Named.{Named}
pub use Rattle.sporc_keys.specs.declared.pair.SharedKey.{SharedKey}
pub use Rattle.sporc_keys.specs.declared.ring_file.PairKey.{PairKey}
pub use Rattle.sporc_keys.specs.declared.ring_file.RingFile.{RingFile}
