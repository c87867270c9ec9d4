-- The names of this crate and of those below that many of its proofs cite, passed on from one place.
pub use Rattle.std.proofs.lemmas.List.{drop_all, length-map, take_all}
pub use Rattle.std.proofs.lemmas.Result.{on_ok_weaker}
pub use Rattle.std.specs.List.{AllByRecursion, slice_get}
pub use Rattle.std.specs.List.Sorted.{IsStrictlyIncreasing}
pub use Rattle.std.specs.Prelude.{OnErr, OnOk, find, if◌then◌else◌, is_ok}
pub use Rattle.sporc_base.specs.Lists.{StartsWith}
pub use Rattle.sporc_delta.specs.Marks.{Insert, Keep, Mark, Remove, apply}
pub use Rattle.sporc_member.specs.Roster.{Roster, after_change, founded, member_at, numbers_of}
pub use Rattle.sporc_member.specs.declared.device.Device.{Device}
pub use Rattle.sporc_entry.specs.declared.genesis.Genesis.{Genesis}
pub use Rattle.sporc_head.specs.History.{hash_of, roster_of}
pub use Rattle.sporc_client.proofs.Calls.{replay_opening}
pub use Rattle.sporc_client.specs.ClientModel.{state_of}
pub use Rattle.sporc_client.specs.PlainClient.{Opening, shown_of}
pub use Rattle.sporc_script.specs.Quoted.{escape, quoted}
pub use Rattle.sporc_script.specs.Spelling.{device_text}
pub use Rattle.sporc_report.specs.ClientLines.{compare_line, further_text, member_text, members_text, text_of_member}
pub use Rattle.sporc_report.specs.EntryLines.{committed, entry_lines, lines_behind}
pub use Rattle.sporc_report.specs.JournalLines.{delta_text, event_text, journal_lines, spaced_part}
