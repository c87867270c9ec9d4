-- The names of this crate and of those below that many of its proofs cite, passed on from one place.
pub use Rattle.sporc_suffix.proofs.Following.{Follow-take, all_inserted-append, reached-append}
pub use Rattle.sporc_suffix.specs.Forms.{Follow, all_inserted, later_over, reached}
pub use Rattle.sporc_xform.proofs.LengthLemmas.{base_len-earlier, base_len-later, inserted_len-earlier, inserted_len-later, out_len-le}
pub use Rattle.std.proofs.Math.Seq.{drop-cons, get_or-append_seam, take-suc}
pub use Rattle.std.proofs.lemmas.Bool.{and_from, and_parts, cases_order, eq-eqb, eqb-false, eqb-true, le-leb, leb-true, lt-ltb, ltb-true, not-true}
pub use Rattle.std.proofs.lemmas.List.{append-nil, append-nil as append_nil, drop-append-le, drop_all, drop_at, get_or-map, length-append, length-drop, length-map, length-take, length-take-le}
pub use Rattle.std.proofs.lemmas.List.{length_push, map-append, same_from_push, take-append-drop, take-append-le, take-take, take_all, take_at, take_more}
pub use Rattle.std.proofs.lemmas.List.Elements.{Contains-append_cases, Contains-append_left, Contains-append_right, filter_map-append}
pub use Rattle.std.proofs.lemmas.List.Sums.{count_by-le-length, fold-append, fold_push, length-filter, sum_by-append}
pub use Rattle.std.proofs.lemmas.Result.{err_from_is_err_and}
pub use Rattle.std.proofs.lemmas.Slice.Eq.{bytes_eq-Decides}
pub use Rattle.std.specs.FinMap.{get}
pub use Rattle.std.specs.Int.{from_be_bytes, to_be_bytes, w16, w32, w64}
pub use Rattle.std.specs.List.{All, AllByRecursion, cons_option, filter_map, flat_map, insert, list_any, slice_get, slice_index_or}
pub use Rattle.std.specs.Prelude.{Bool, Contains, Err, IfOk, IfSome, IsErr, IsSomeAnd, IsTrue, List, None, Ok, OnOk, Option, Result, Some, drop, false, filter, find, fold, is_none, is_some, length}
pub use Rattle.std.specs.Prelude.{nat_le, nat_lt, not, option_and_then, option_map, refl, true, unwrap_or, ℕ, ⊤, ◌&&◌, ◌+◌, ◌<◌, ◌==◌, ◌||◌, ◌≡◌, ◌≢◌, ◌≤◌}
pub use Rattle.std.specs.Result.{result_ok}
pub use Rattle.std.specs.Str.{all_scalars, chars, encode_utf8_all}
pub use Rattle.sha2.proofs.Facts256.{length-sha256}
pub use Rattle.lms_leaf.specs.Leaves.{DrawFaults, Draws, LeavesModel}
pub use Rattle.lms_leaf.specs.declared.faults.LeafFault.{LeafFault}
pub use Rattle.lms_sign.specs.Signer.{SignerModel}
pub use Rattle.lms_tree.specs.LmsPrivate.{LmsPrivate, lms_public_of, sibling_value}
pub use Rattle.lms_tree.specs.LmsPublic.{public_key_bytes, public_key_in}
pub use Rattle.lms_tree.specs.LmsType.{height_of, lms_code_of}
pub use Rattle.lms_tree.specs.Signatures.{lms_signature_of}
pub use Rattle.lms_tree.specs.Verification.{lms_signature_len_of, verifies}
pub use Rattle.lms_tree.specs.declared.public_key.LmsPublic.{LmsPublic}
pub use Rattle.sporc_base.proofs.ListLemmas.{all_append}
pub use Rattle.sporc_base.specs.Bytes.{IsBytes}
pub use Rattle.sporc_base.specs.FirstFault.{first_of, unless}
pub use Rattle.sporc_base.specs.Outcome.{GivesUnless}
pub use Rattle.sporc_bytes.proofs.Fields.{bind_ok, ok_is, u32_again}
pub use Rattle.sporc_bytes.specs.Fields.{Reading, counted_at, end_at, number_at, ◌>>=◌}
pub use Rattle.sporc_hash.proofs.Lists.{Contains-first, Contains-rest, from_end}
pub use Rattle.sporc_hash.specs.Chain.{commitment_of}
pub use Rattle.sporc_hash.specs.Strings.{CollisionFree, chain_strings, key_string, key_strings}
pub use Rattle.sporc_cipher.proofs.Stream.{length-mask_from, mask_from-mask_from}
pub use Rattle.sporc_cipher.specs.Mask.{mask_of}
pub use Rattle.sporc_delta.proofs.Lengths.{base_len-append, base_len-insert_marks, base_len-keep_marks, base_len-remove_marks, inserted_len-append, inserted_len-insert_marks, inserted_len-keep_marks}
pub use Rattle.sporc_delta.proofs.Lengths.{inserted_len-remove_marks}
pub use Rattle.sporc_delta.proofs.Runs.{marks_of-runs}
pub use Rattle.sporc_delta.proofs.Spelled.{length-encode_all}
pub use Rattle.sporc_delta.specs.Format.{HasSpelling, HaveSpellings, Spells, delta_bytes, part_bytes, parts_bytes}
pub use Rattle.sporc_delta.specs.Marks.{Insert, Keep, Mark, apply, base_len, insert_marks, inserted_len, insertion, keep_marks, out_len, remove_marks, replacement}
pub use Rattle.sporc_delta.specs.Parts.{marks_of, part_marks, runs}
pub use Rattle.sporc_delta.specs.Transforms.{compose, earlier, last_steps, later, later_step}
pub use Rattle.sporc_delta.specs.Typed.{IsTypedDelta, IsTypedPart}
pub use Rattle.sporc_delta.specs.declared.limits.TheConstants.{MAX_COUNT, MAX_TEXT_LEN}
pub use Rattle.sporc_delta.specs.declared.part.Part.{Part}
pub use Rattle.sporc_delta.specs.declared.part.Part.TheVariants.{Insert as InsertText, Keep as KeepRun, Remove as RemoveRun}
pub use Rattle.sporc_member.proofs.Checks.{passes}
pub use Rattle.sporc_member.proofs.SameDevice.{one_same, same_one}
pub use Rattle.sporc_member.specs.Device.{device_place, first_device, same_device}
pub use Rattle.sporc_member.specs.Role.{is_admin, role_code_of}
pub use Rattle.sporc_member.specs.Roster.{Roster, after_change, change_fault_of, device_by, founded, has_admin, has_role, insert_sorted, is_used, key_of, key_of as key_of_device, member_at, member_by}
pub use Rattle.sporc_member.specs.Roster.{numbers_of, removes, roster_after, with_role}
pub use Rattle.sporc_member.specs.declared.change.Change.{Change as MemberChange}
pub use Rattle.sporc_member.specs.declared.change.Change.TheVariants.{Add, AddDevice, DropDevice, Remove, SetRole, Upgrade}
pub use Rattle.sporc_member.specs.declared.change.ChangeFault.{ChangeFault}
pub use Rattle.sporc_member.specs.declared.device.Device.{Device}
pub use Rattle.sporc_member.specs.declared.member.Member.{Member}
pub use Rattle.sporc_entry.proofs.ChangeLaws.{change_body_again}
pub use Rattle.sporc_entry.proofs.EntryLaws.{entry_again, entry_size, entry_takes, header_again, length-counted_bytes, length-header_bytes}
pub use Rattle.sporc_entry.specs.ChangeBody.{IsChange, IsChangeBody, IsWrap, SpellsChange, change_body_bytes, change_body_from, change_bytes, wrap_bytes}
pub use Rattle.sporc_entry.specs.Entry.{IsEntry, IsHeader, author_device, body_limit, change_of, counted_bytes, entry_of, header_bytes, signed_string}
pub use Rattle.sporc_entry.specs.Genesis.{IsFounder, IsGenesis, genesis_bytes}
pub use Rattle.sporc_entry.specs.Version.{fits_version, has_kind, header_len, version_of}
pub use Rattle.sporc_entry.specs.declared.change.ChangeBody.{ChangeBody}
pub use Rattle.sporc_entry.specs.declared.entry.Entry.{Entry}
pub use Rattle.sporc_entry.specs.declared.genesis.Genesis.{Genesis}
pub use Rattle.sporc_entry.specs.declared.header.Header.{Header}
pub use Rattle.sporc_entry.specs.declared.limits.TheConstants.{MAX_CHANGE_BODY, MAX_EDIT_BODY, MAX_ENTRY, MAX_SIGNATURE}
pub use Rattle.sporc_entry.specs.declared.wrap.Wrap.{Wrap}
pub use Rattle.sporc_epoch.proofs.SealedKeys.{new_opens, previous_opens, sealed, wraps_name}
pub use Rattle.sporc_epoch.specs.Keys.{Keys, pairs_in}
pub use Rattle.sporc_epoch.specs.Sealing.{Sealing, body_sealed, body_unless, least_unpaired, wraps_sealed}
pub use Rattle.sporc_epoch.specs.Streams.{entry_stream, stream_of}
pub use Rattle.sporc_epoch.specs.Wraps.{opened_under, wrap_for, wrap_opened}
pub use Rattle.sporc_epoch.specs.declared.fault.SealFault.TheVariants.{NoPairKey}
pub use Rattle.sporc_head.proofs.Grows.{change_in_read, epoch_le, roster_change, roster_edit}
pub use Rattle.sporc_head.specs.HeadChecks.{allows, allows_member, bad_change, names, names_leaf, roster_checks, verifies_device, verifies_under}
pub use Rattle.sporc_head.specs.History.{CommittedChange, barrier_of, change_in, change_read, changes, committed_by, count_of, epoch_of, hash_of, is_by, is_read_by, is_removed, last_from, last_of}
pub use Rattle.sporc_head.specs.History.{roster_of}
pub use Rattle.sporc_head.specs.declared.limits.TheConstants.{MAX_ENTRIES}
pub use Rattle.sporc_head.specs.declared.refusal.Refusal.{Refusal}
pub use Rattle.sporc_line.proofs.FormLengths.{base_len-over, change_form, edit_form, edit_over, forms_follow, inserted_len-over, length-apply, length-forms, length-text, next_form_base, reached-le}
pub use Rattle.sporc_line.proofs.Goods.{good_entry, good_front, good_none, good_push, good_take, last_passes}
pub use Rattle.sporc_line.proofs.Lists.{slice_get-take, slice_get_push, take_front, take_slice_get_more}
pub use Rattle.sporc_line.proofs.MoreForms.{changes_append, forms_push, key_of_push, text_push}
pub use Rattle.sporc_line.proofs.NextEntry.{at_next, started_by_wraps}
pub use Rattle.sporc_line.proofs.Passes.{Passes, no_fault, passed}
pub use Rattle.sporc_line.proofs.SameKeys.{has_left, keys_meet}
pub use Rattle.sporc_line.specs.Document.{forms_from, forms_of, next_form, text_after, text_of}
pub use Rattle.sporc_line.specs.Good.{Good, Meets}
pub use Rattle.sporc_line.specs.Keys.{epoch_key, key_after}
pub use Rattle.sporc_line.specs.Kit.{Kit}
pub use Rattle.sporc_line.specs.LineChecks.{first_fault, is_new_key, new_key_checks}
pub use Rattle.sporc_line.specs.LineModel.{LineModel}
pub use Rattle.sporc_line.specs.LineStrings.{line_strings}
pub use Rattle.sporc_line.specs.Operations.{Operation, edit_marks, operations}
pub use Rattle.sporc_client.specs.Allowed.{can_log, can_log_all, first_sealed, is_drop, is_entry, is_made, new_key_in, new_key_of, randomizer_in}
pub use Rattle.sporc_client.specs.Answers.{accept_fault, change_fault, discard_fault, edit_fault, has_right, is_out, journal_has_room, or_full, refusal_of, restart_fault}
pub use Rattle.sporc_client.specs.ClientInvariant.{ClientInvariant, Stores, client_model, plain_of}
pub use Rattle.sporc_client.specs.ClientModel.{AreInOrder, ClientModel, Rise, StandOnce, first_leaf_of, kept_count, leaf_in, leaves_of, state_of, with_events}
pub use Rattle.sporc_client.specs.Coming.{CanCome, Effect, coming_of, effect, flight_after, pending_after, shown_form}
pub use Rattle.sporc_client.specs.Contents.{CanTake, Fits, IsSpelled, IsSubmission}
pub use Rattle.sporc_client.specs.Drawing.{IsDraw, MayDraw, at_hand, drawn, leaf_for}
pub use Rattle.sporc_client.specs.Entries.{Chosen, body_of, bytes_made, current_key, entry_made, kind_of, next_header, sealing_of, unsigned_entry}
pub use Rattle.sporc_client.specs.Genuine.{Genuine, HasSigned, IsUnderKeyOf}
pub use Rattle.sporc_client.specs.HonestEntries.{CanLearnKey, CanReceive, EntriesPass, HasOwnKey, IsOthersEdit}
pub use Rattle.sporc_client.specs.LeafUses.{AreUses, IsReopening, IsUse, LeafSupply, LeafUse, Uses, leaf_given, leaves_used, supply_of}
pub use Rattle.sporc_client.specs.Log.{Accept, Change, Discard, Dropped, Edit, Logged, Submit, accepted_in, entries_by, filled_event, journal_from, journal_of, log_of, stored_event}
pub use Rattle.sporc_client.specs.Passing.{CanAllBecome, ItemCanBecome, all_became, item_became}
pub use Rattle.sporc_client.specs.PlainClient.{Opening, PlainClient, after_pending, committed_of, line_of, me_of, opened, shown_after, shown_of}
pub use Rattle.sporc_client.specs.Reached.{IsReached}
pub use Rattle.sporc_client.specs.Rebasing.{AreOver, AreStated, beyond, in_one, inserted_by, rebased}
pub use Rattle.sporc_client.specs.Run.{Give, Happen, IsAt, IsRun, May, Move, Open, Restart, Setup, Signing, World, after, after_all, given, opening_of, put, signings, start, world_at}
pub use Rattle.sporc_client.specs.Small.{AreShort, IsSmall}
pub use Rattle.sporc_client.specs.Soundness.{IsEditOf, IsEntryOf, IsInFlight, IsOfFirst, IsSound}
pub use Rattle.sporc_client.specs.Step.{accepted, change_comes, edit_comes, form_coming, is_flight, is_same_as, keeps, log_of_entries, log_of_first, own_comes, replay, replay_from, restated, step}
pub use Rattle.sporc_client.specs.Submissions.{Drop, Due, Nothing, Refuse, Sign, Waiting, answered, change_due, draw_fault, due, due_behind, first_due, is_signing, item_due, no_pair_key, or_due}
pub use Rattle.sporc_client.specs.Submissions.{signed, step_of, submission, submission_added, submit_checks}
pub use Rattle.sporc_client.specs.Taking.{CanSettle, Takes, coming_at, form_at}
pub use Rattle.sporc_client.specs.Typed.{AreEpochKeys, IsTypedChange, IsTypedEvent, IsTypedMove, IsTypedRun}
pub use Rattle.sporc_client.specs.WellFormed.{IsWellFormed}
pub use Rattle.sporc_client.specs.Workspace.{SameOwn, WorkspaceModel}
pub use Rattle.sporc_client.specs.declared.client.submitting.draft.Made.{Made}
pub use Rattle.sporc_client.specs.declared.client.submitting.due.Due.{Due as Step}
pub use Rattle.sporc_client.specs.declared.event.Event.{Event}
pub use Rattle.sporc_client.specs.declared.fault.SubmitFault.{SubmitFault}
pub use Rattle.sporc_client.specs.declared.fault.SubmitFault.TheVariants.{HeadTooLong, HistoryFull, JournalFull, Memory, NoRight, Removed}
pub use Rattle.sporc_client.specs.declared.limits.TheConstants.{MAX_EDIT_BYTES, MAX_EVENTS, MAX_HEAD_BYTES, MAX_PENDING, MAX_SHOWN_LEN}
pub use Rattle.sporc_client.specs.declared.pending.Pending.{Pending}
pub use Rattle.sporc_client.specs.declared.submitted.Submitted.{Submitted}
