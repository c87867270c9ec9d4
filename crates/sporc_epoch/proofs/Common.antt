-- The names of this crate and of those below that many of its proofs cite, passed on from one place.
pub use Rattle.std.proofs.lemmas.List.{map-append, reverse-append, take-append-drop, take_more}
pub use Rattle.std.specs.BTreeMap.{BTreeMap}
pub use Rattle.std.specs.Cmp.{nat_cmp_total, nat_eq_equiv, unsigned_Decides, unsigned_tied, unsigned_ties}
pub use Rattle.std.specs.FinMap.{empty, from_entries, get, get-insert, gets, insert, nat_cmp-IsAntisymmetric, same_map}
pub use Rattle.std.specs.List.{All, AllByRecursion, cons_option, each_same, prefix_len}
pub use Rattle.std.specs.Ordering.{eq_by_cmp, nat_cmp}
pub use Rattle.std.specs.Prelude.{Contains, Err, Ok, Option, Result, find, fold, nat_eq, option_and_then, option_map, take_while}
pub use Rattle.sha2.proofs.Facts256.{length-sha256}
pub use Rattle.sporc_cipher.proofs.Stream.{length-mask_from, mask_from-mask_from}
pub use Rattle.sporc_cipher.specs.Mask.{mask_of}
pub use Rattle.sporc_entry.specs.CommittedChanges.{change_in, changes}
pub use Rattle.sporc_entry.specs.declared.change.ChangeBody.{ChangeBody}
pub use Rattle.sporc_entry.specs.declared.wrap.Wrap.{Wrap}
pub use Rattle.sporc_epoch.specs.Hints.{is_committed, is_of, joining, joins, keys_back, ring_of, start_by, starts_before}
pub use Rattle.sporc_epoch.specs.Keys.{Keys, pairs_in}
pub use Rattle.sporc_epoch.specs.RingModel.{RingModel}
pub use Rattle.sporc_epoch.specs.Sealing.{Sealing, least_unpaired, wraps_sealed}
pub use Rattle.sporc_epoch.specs.Streams.{entry_stream, previous_stream}
pub use Rattle.sporc_epoch.specs.Wraps.{wrap_for}
pub use Rattle.sporc_epoch.specs.declared.fault.HintFault.TheVariants.{WrongKey}
pub use Rattle.sporc_epoch.specs.declared.start.EpochStart.{EpochStart}
