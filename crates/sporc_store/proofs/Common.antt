-- The names of this crate and of those below that many of its proofs cite, passed on from one place.
pub use Rattle.std.proofs.Math.Seq.{drop-nil, take-append-add, take-nil}
pub use Rattle.std.proofs.lemmas.Bool.{and_parts, cases_lt, eq-eqb, eqb-true, le-leb, le-ltb, leb-true, lt-ltb, ltb-false}
pub use Rattle.std.proofs.lemmas.Bool.Decides.{Decides-eqb, nat_tests}
pub use Rattle.std.proofs.lemmas.List.{append-nil, drop-map, drop_all, drop_at, drop_more, get_or-take, length-append, length-drop, length-map, length-take, length-take-le, nil_from_length}
pub use Rattle.std.proofs.lemmas.List.{take-append-drop, take-append-le, take_all, take_at, take_more}
pub use Rattle.std.proofs.lemmas.List.Elements.{All-append, All-cons, All-head, All-nil, All-tail}
pub use Rattle.std.proofs.lemmas.Slice.Eq.{bytes_eq-Decides, starts_is}
pub use Rattle.std.specs.Int.{from_be_bytes, to_be_bytes, w32}
pub use Rattle.std.specs.List.{All, flat_map, slice_get, starts_with}
pub use Rattle.std.specs.Prelude.{IfErr, IfOk, IfSome, IsSome, IsSomeAnd, OnErr, OnOk, if◌then◌else◌, nat_eq, option_map, ◌&&◌, ◌==◌}
pub use Rattle.sporc_base.specs.Bytes.{IsBytes}
pub use Rattle.sporc_bytes.proofs.Fields.{Takes, Takes-then, bind_ok, bytes_again, bytes_takes, counted_again, counted_takes, fault_as_ok, number_takes, ok_is, only_if_ok, u32_again, wide32}
pub use Rattle.sporc_bytes.specs.Fields.{Reading, counted, counted_at, end_at, fault_as, number_at, only_if, ◌>>=◌}
pub use Rattle.sporc_outside.specs.AppendFile.{AppendTold, FileSteps, GrowsBy, IsFileFound, IsWholeFault, MayBeCut, file_images}
pub use Rattle.sporc_outside.specs.declared.file_fault.TheConstants.{MAX_FILE}
pub use Rattle.sporc_entry.specs.declared.genesis.Genesis.{Genesis}
pub use Rattle.sporc_head.specs.declared.examined.Verdict.{Verdict}
pub use Rattle.sporc_head.specs.declared.limits.TheConstants.{MAX_ENTRIES}
pub use Rattle.sporc_entry.specs.declared.limits.TheConstants.{MAX_ENTRY}
pub use Rattle.sporc_head.specs.declared.refusal.Refusal.{Refusal}
pub use Rattle.sporc_base.proofs.ByteLemmas.{IsBytes-drop}
pub use Rattle.sporc_outside.specs.LeafDisk.{CrashStep, IsSame}
pub use Rattle.sporc_outside.specs.Uses.{use_of}
pub use Rattle.sporc_store.specs.Loading.{AppendsPart, AppendsSome, AreAccepted, Checker, accepted, accepted_behind, accepted_from, an_order, loaded}
pub use Rattle.sporc_store.specs.SavedFile.{IsPrefix, IsUnchecked, Taken, entries_at, entry_and, first_and, head_bytes, listed, read_to, saved_bytes, saved_file, saved_in, stop_behind}
pub use Rattle.sporc_store.specs.TailBytes.{Agree, FitsRecord, GivesBehind, GivesSame, GoesOn, IsTail, IsUnread, Recovers, TailTaken, behind_head, record_bytes, records_behind, records_bytes}
pub use Rattle.sporc_store.specs.TailBytes.{records_of, tail_behind, tail_bytes, tail_head, taken_from, taken_to}
pub use Rattle.sporc_store.specs.TailFiles.{AreSynced, Between, Cuts, IsFaultOf, IsRefusal, Keeps, KeepsEntries, OpensBehind, Puts, RecoversAt, Settles, StaysFound, TailFileModel, TakesTail}
pub use Rattle.sporc_store.specs.TailFiles.{TellsStill, Writes, counting, counting_of, head_behind, tail_on}
pub use Rattle.sporc_store.specs.Verdicts.{AreExact}
pub use Rattle.sporc_store.specs.declared.stop.Stop.{Stop}
pub use Rattle.sporc_store.specs.declared.stop.Stop.TheVariants.{Cut, End, Foreign, Refused, Refused as RefusedAt}
pub use Rattle.sporc_store.specs.declared.tail_fault.TailFault.{TailFault}
pub use Rattle.sporc_store.specs.declared.tail_fault.TailFault.TheVariants.{Malformed}
pub use Rattle.sporc_store.specs.declared.head.TheConstants.{HEAD_LEN}
