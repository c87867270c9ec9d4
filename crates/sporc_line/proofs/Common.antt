-- The names of this crate and of those below that many of its proofs cite, passed on from one place.
pub use Rattle.sporc_suffix.proofs.Following.{Follow-at, Follow-take, all_inserted-append, all_inserted-drop, reached-append}
pub use Rattle.sporc_suffix.specs.Forms.{Follow, all_inserted, later_over, reached}
pub use Rattle.std.proofs.lemmas.Bool.{and_parts, cases_lt, eq-eqb, eqb-true, le-leb, leb-true, lt-ltb, ltb-false, ltb-true, not-true, not_from_false, or_parts}
pub use Rattle.std.proofs.lemmas.List.{append-nil, append_cancel_left, length-map, length-take-le, map-append, take-append-drop, take-append-le, take-take, take_all, take_at}
pub use Rattle.std.proofs.lemmas.List.Elements.{Contains-append_left, Contains-append_right, filter_map-append}
pub use Rattle.std.proofs.lemmas.Result.{err_from_is_err_and}
pub use Rattle.std.proofs.lemmas.Slice.Eq.{bytes_eq-Decides}
pub use Rattle.std.specs.FinMap.{from_entries, get}
pub use Rattle.std.specs.Int.{to_be_bytes, w32}
pub use Rattle.std.specs.List.{Contains, each_same, list_any, slice_get}
pub use Rattle.std.specs.Prelude.{find, is_some, nat_le, nat_lt, not, ◌==◌, ◌||◌}
pub use Rattle.std.specs.Result.{result_ok}
pub use Rattle.sporc_base.specs.FirstFault.{first_of, unless}
pub use Rattle.sporc_hash.proofs.Lists.{Contains-first, from_end}
pub use Rattle.sporc_hash.specs.Chain.{commitment_of, commitment_string}
pub use Rattle.sporc_cipher.proofs.Stream.{length-mask_from}
pub use Rattle.sporc_cipher.specs.Mask.{mask_of}
pub use Rattle.sporc_delta.proofs.Lengths.{base_len-keep_marks, inserted_len-append, inserted_len-insert_marks, inserted_len-keep_marks, inserted_len-remove_marks}
pub use Rattle.sporc_delta.specs.Marks.{Insert, Keep, Mark, Remove, apply, base_len, inserted_len, keep_marks, out_len}
pub use Rattle.sporc_delta.specs.Reading.{read_delta}
pub use Rattle.sporc_delta.specs.declared.fault.DeltaFault.{DeltaFault}
pub use Rattle.sporc_member.proofs.Checks.{holds, passes}
pub use Rattle.sporc_member.specs.Roster.{Roster, after_change, key_of, member_at, numbers_of, removes, roster_after}
pub use Rattle.sporc_member.specs.declared.device.Device.{Device}
pub use Rattle.sporc_entry.proofs.Changes.{changes_push}
pub use Rattle.sporc_entry.specs.Entry.{author_device, body_limit, body_read, change_of, entry_of, header_at, signed_string}
pub use Rattle.sporc_entry.specs.Version.{version_of}
pub use Rattle.sporc_entry.specs.declared.change.ChangeBody.{ChangeBody}
pub use Rattle.sporc_entry.specs.declared.entry.Entry.{Entry}
pub use Rattle.sporc_entry.specs.declared.genesis.Genesis.{Genesis}
pub use Rattle.sporc_entry.specs.declared.limits.TheConstants.{MAX_EDIT_BODY, MAX_SIGNATURE}
pub use Rattle.sporc_epoch.specs.Streams.{stream_of}
pub use Rattle.sporc_head.proofs.ChecksPass.{first_of-none, first_of-some}
pub use Rattle.sporc_head.proofs.Grows.{change_in_read, epoch_le, removed_push, removes_in, roster_change}
pub use Rattle.sporc_head.proofs.OnceChecked.{ok_of, unless_exit}
pub use Rattle.sporc_head.specs.CheckedModel.{CheckedModel}
pub use Rattle.sporc_head.specs.HeadChecks.{author_checks, fault_read, head_fault, history_checks, place_checks, roster_checks}
pub use Rattle.sporc_head.specs.History.{CommittedChange, barrier_of, change_in, changes, count_of, epoch_of, hash_of, is_removed, last_of, roster_of}
pub use Rattle.sporc_head.specs.declared.limits.TheConstants.{MAX_ENTRIES}
pub use Rattle.sporc_head.specs.declared.refusal.Refusal.{Refusal}
pub use Rattle.sporc_head.specs.declared.refusal.Refusal.TheVariants.{BadPayload, BadSignature, BaseAhead, BeforeBarrier, BehindOwn, HistoryFull, LeafMismatch, Memory, NoKey, NoRight, Removed}
pub use Rattle.sporc_head.specs.declared.refusal.Refusal.TheVariants.{UnknownAuthor, UnknownDevice, WrongDocument, WrongEpoch, WrongHistory, WrongKey, WrongLength, WrongNumber, WrongPosition}
pub use Rattle.sporc_head.specs.declared.refusal.Refusal.TheVariants.{WrongVersion, WrongWraps}
pub use Rattle.sporc_line.specs.Document.{form_of, forms_from, forms_of, next_form, text_after, text_of}
pub use Rattle.sporc_line.specs.Good.{Good, Meets}
pub use Rattle.sporc_line.specs.Keys.{epoch_key, key_after, key_started}
pub use Rattle.sporc_line.specs.Started.{key_by_wraps}
pub use Rattle.sporc_line.specs.Kit.{Kit, kit_of}
pub use Rattle.sporc_line.specs.LineChecks.{edit_checks, first_fault, is_new_key, is_over, key_checks, key_checks_of, line_checks, new_key_checks}
pub use Rattle.sporc_line.specs.LineModel.{LineInvariant, LineModel}
pub use Rattle.sporc_line.specs.Operations.{Changed, Edited, Operation, edit_marks, marks_in, operation_in, operation_read, operations}
pub use Rattle.sporc_line.specs.Prepared.{IsEffect, IsPrepared, PreparedModel}
pub use Rattle.sporc_line.specs.PreparedFields.{prepared_of}
pub use Rattle.sporc_line.specs.declared.effect.Effect.{Effect}
pub use Rattle.sporc_line.specs.declared.limits.TheConstants.{MAX_COMMITTED_LEN}
