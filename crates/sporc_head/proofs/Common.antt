-- The names of this crate and of those below that many of its proofs cite, passed on from one place.
pub use Rattle.std.proofs.lemmas.Bool.{eq-eqb, eqb-false, eqb-true, ltb-true}
pub use Rattle.std.proofs.lemmas.List.{length-map, length-take, map-append, map_push, take_all}
pub use Rattle.std.specs.Global.{Vec}
pub use Rattle.std.specs.HashMap.{get}
pub use Rattle.std.specs.Prelude.{IfSome, IsOk, OnOk, Some, cond, count_by, fold, is_some, nat_eq, option_map, ◌&&◌, ◌||◌}
pub use Rattle.sporc_base.specs.FirstFault.{AnswersUnless, first_of, unless}
pub use Rattle.sporc_hash.specs.Chain.{genesis_value, next_value}
pub use Rattle.sporc_member.specs.Device.{same_device}
pub use Rattle.sporc_member.specs.Roster.{Roster, after_change, change_fault_of, founded, key_of, member_at, removes, roster_after}
pub use Rattle.sporc_member.specs.declared.change.Change.{Change}
pub use Rattle.sporc_member.specs.declared.device.Device.{Device}
pub use Rattle.sporc_entry.specs.Entry.{IsEntry, author_device, change_of, entry_bytes, entry_of}
pub use Rattle.sporc_entry.specs.Genesis.{IsGenesis, genesis_bytes}
pub use Rattle.sporc_entry.specs.declared.change.ChangeBody.{ChangeBody}
pub use Rattle.sporc_entry.specs.declared.entry.Entry.{Entry}
pub use Rattle.sporc_entry.specs.declared.genesis.Genesis.{Genesis}
pub use Rattle.sporc_head.specs.HeadChecks.{author_checks, fault_read, history_checks, place_checks, roster_checks}
pub use Rattle.sporc_head.specs.HeadsModel.{HeadsInvariant, HeadsModel, entries_in}
pub use Rattle.sporc_head.specs.History.{CommittedChange, change_in, change_read, changes, committed_by, count_of, epoch_of, hash_of, is_by, is_read_by, is_removed, last_from, last_of}
pub use Rattle.sporc_head.specs.History.{member_change_of, roster_of}
pub use Rattle.sporc_head.specs.TablesMatch.{TablesMatch, covers, is_gone, rank_of, tally_in, tally_or_none, with_removal}
pub use Rattle.sporc_head.specs.declared.limits.TheConstants.{DEVICE_NUMBERS, MAX_ENTRIES}
pub use Rattle.sporc_head.specs.declared.refusal.Refusal.TheVariants.{HistoryFull, Memory, Removed, WrongDocument, WrongPosition}
pub use Rattle.sporc_head.specs.declared.tables.Tally.{Tally}
