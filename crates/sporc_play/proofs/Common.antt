-- The names of this crate and of those below that many of its proofs cite, passed on from one place.
pub use Rattle.hex.specs.Hex.{encode_lower}
pub use Rattle.std.proofs.Math.ListN.{set}
pub use Rattle.std.proofs.lemmas.Bool.{and_parts, cases_lt, eqb-true, le-leb, leb-true, lt-ltb, ltb-true, ne_eqb, or_left, not-true}
pub use Rattle.std.proofs.lemmas.Bool.Decides.{nat_tests}
pub use Rattle.std.proofs.lemmas.List.{length-map, length-take-le, map-append, map_more, reverse-append, take-append-le, take_all, take_more, take_more as more_taken}
pub use Rattle.std.proofs.lemmas.List.Elements.{All-from_recursion, Contains-append_left, Contains-append_right, filter_map-append, filter_more}
pub use Rattle.std.proofs.lemmas.List.Sums.{count_by-le-length, fold-append, fold_push, length-filter}
pub use Rattle.std.proofs.lemmas.Nat.{mod_below, xor_of_8}
pub use Rattle.std.proofs.lemmas.Option.{IfSome_then, cond_some, same_Some, slice_get-map, slice_get_past, slice_get_read, slice_get_within}
pub use Rattle.std.proofs.lemmas.Result.{IfOk-weaker, err_from_is_err_and, on_ok_weaker}
pub use Rattle.std.proofs.lemmas.Str.{IsUtf8-string_bytes, chars-IsAscii, chars_from_encodes, encode_ascii, len_utf8_ascii, length-encode}
pub use Rattle.std.specs.Char.{encode_utf8}
pub use Rattle.std.specs.Cmp.{nat_cmp_total, unsigned_tied}
pub use Rattle.std.specs.FinMap.{empty, get, get-empty, get-insert, insert}
pub use Rattle.std.specs.Fmt.{decimal}
pub use Rattle.std.specs.Int.{to_be_bytes, to_le_bytes, w16, w32, w64}
pub use Rattle.std.specs.Io.KnownBytes.{Appends, Consumes, IsAtEnd}
pub use Rattle.std.specs.List.{AllByRecursion, cons_option, list_any}
pub use Rattle.std.specs.Option.{option_to_list}
pub use Rattle.std.specs.Ordering.{eq_by_cmp, nat_cmp}
pub use Rattle.std.specs.Prelude.{Contains, Err, IfOk, IfSome, IsSome, IsSomeAnd, IsTrue, None, Ok, Result, bit_xor, false, filter_map, flat_map, if◌then◌else◌, is_none, is_some, min, nat_le, nat_lt}
pub use Rattle.std.specs.Prelude.{not, option_and_then, option_map, replicate, slice_get, slice_index, take_while, unwrap_or, ⊤, ◌&&◌, ◌==◌, ◌||◌, ◌↔◌, ◌⊎◌}
pub use Rattle.std.specs.Result.{IfErr, OnErr, OnOk, is_ok}
pub use Rattle.std.specs.Str.{IsAscii, all_scalars, bytes_eq, chars, encode_utf8_all}
pub use Rattle.sha2.proofs.Facts256.{length-sha256}
pub use Rattle.lms_leaf.specs.LeafFile.{block_count, taken_blocks}
pub use Rattle.lms_leaf.specs.Leaves.{DrawFaults, Draws, LeavesModel}
pub use Rattle.lms_leaf.specs.declared.faults.LeafFault.{LeafFault}
pub use Rattle.lms_ots.specs.OtsType.{ots_code_of, part_count_of, width_of}
pub use Rattle.lms_sign.specs.Signer.{SignerModel}
pub use Rattle.lms_tree.specs.LmsPrivate.{LmsPrivate, lms_public_of, root_of, sibling_value}
pub use Rattle.lms_tree.specs.LmsPublic.{public_key_in}
pub use Rattle.lms_tree.specs.LmsType.{height_of, lms_code_of}
pub use Rattle.sporc_base.proofs.ListLemmas.{all_append}
pub use Rattle.sporc_base.specs.Bytes.{IsBytes}
pub use Rattle.sporc_base.specs.FirstFault.{AnswersUnless, first_of, unless}
pub use Rattle.sporc_base.specs.Numbers.{up_to}
pub use Rattle.sporc_outside.specs.Writing.{AppendsPrefix}
pub use Rattle.sporc_memory.specs.MemoryDisk.{MemoryDiskModel, state_after}
pub use Rattle.sporc_hash.specs.Chain.{chain, commitment_of, last_value}
pub use Rattle.sporc_cipher.proofs.Stream.{length-mask_from}
pub use Rattle.sporc_cipher.specs.Mask.{mask_of}
pub use Rattle.sporc_delta.proofs.Typing.{inserted, inserted-append, inserted-insert_marks, inserted-insertion, inserted-removal, scalars_append, typed_delta}
pub use Rattle.sporc_delta.specs.Format.{delta_bytes, part_bytes, parts_bytes}
pub use Rattle.sporc_delta.specs.Marks.{Mark, apply, base_len, insert_marks, inserted_len, insertion, keep_marks, out_len, removal, remove_marks, replacement}
pub use Rattle.sporc_delta.specs.Parts.{runs, with_mark}
pub use Rattle.sporc_delta.specs.declared.limits.TheConstants.{MAX_COUNT}
pub use Rattle.sporc_delta.specs.declared.part.Part.{Part}
pub use Rattle.sporc_member.proofs.SameDevice.{one_same, same_one}
pub use Rattle.sporc_member.specs.ChangeFault.{change_fault_code_of, change_fault_name}
pub use Rattle.sporc_member.specs.Device.{IsMember, first_device, same_device}
pub use Rattle.sporc_member.specs.Lists.{insert_by, place_among}
pub use Rattle.sporc_member.specs.Role.{is_admin, role_code_of}
pub use Rattle.sporc_member.specs.Roster.{Roster, after_change, change_fault_of, founder_numbers, numbers_of}
pub use Rattle.sporc_member.specs.declared.change.Change.{Change as MemberChange}
pub use Rattle.sporc_member.specs.declared.change.Change.TheVariants.{Add, AddDevice, DropDevice, SetRole, Upgrade}
pub use Rattle.sporc_member.specs.declared.change.ChangeFault.{ChangeFault}
pub use Rattle.sporc_member.specs.declared.device.Device.{Device}
pub use Rattle.sporc_member.specs.declared.founder.Founder.{Founder}
pub use Rattle.sporc_member.specs.declared.limits.TheConstants.{MAX_MEMBERS}
pub use Rattle.sporc_entry.specs.ChangeBody.{ChangeWith, IsKey, IsWrap, change_body_bytes, change_bytes, wrap_bytes}
pub use Rattle.sporc_entry.specs.Entry.{entry_bytes, signed_string}
pub use Rattle.sporc_entry.specs.Genesis.{IsFounder, IsGenesis, bad_key, founders_fault, genesis_bytes, has_admin_founder}
pub use Rattle.sporc_entry.specs.Version.{fits_version, names_device, version_of}
pub use Rattle.sporc_entry.specs.declared.change.ChangeBody.{ChangeBody}
pub use Rattle.sporc_entry.specs.declared.entry.Entry.{Entry}
pub use Rattle.sporc_entry.specs.declared.genesis.Genesis.{Genesis}
pub use Rattle.sporc_entry.specs.declared.header.Header.{Header}
pub use Rattle.sporc_entry.specs.declared.wrap.Wrap.{Wrap}
pub use Rattle.sporc_epoch.specs.Hints.{hints_of}
pub use Rattle.sporc_epoch.specs.Keys.{Keys, pairs_in}
pub use Rattle.sporc_epoch.specs.Sealing.{wraps_sealed}
pub use Rattle.sporc_epoch.specs.Streams.{entry_stream, previous_stream, stream_of}
pub use Rattle.sporc_epoch.specs.Wraps.{wrap_opened}
pub use Rattle.sporc_epoch.specs.declared.fault.HintFault.{HintFault}
pub use Rattle.sporc_epoch.specs.declared.fault.SealFault.TheVariants.{Memory, NoPairKey}
pub use Rattle.sporc_head.specs.History.{CommittedChange, change_in, change_read, changes, committed_by, count_of, epoch_of, hash_of, roster_of}
pub use Rattle.sporc_head.specs.declared.refusal.Refusal.{Refusal}
pub use Rattle.sporc_line.specs.Document.{forms_of, next_form, text_after}
pub use Rattle.sporc_line.specs.Good.{Good, Meets}
pub use Rattle.sporc_line.specs.Keys.{epoch_key, key_after}
pub use Rattle.sporc_line.specs.Kit.{Kit}
pub use Rattle.sporc_line.specs.Openings.{open_checks}
pub use Rattle.sporc_line.specs.declared.fault.LineOpenFault.{LineOpenFault}
pub use Rattle.sporc_client.proofs.AllItems.{all_added, all_filter, all_filter_map, all_map, all_take}
pub use Rattle.sporc_client.proofs.Calls.{after_append, put_other, replay_append, replay_opening, run_append}
pub use Rattle.sporc_client.proofs.Checked.{edit_passed}
pub use Rattle.sporc_client.proofs.Reached.{gives_to, happens_to, put_same, reached_at, restarted, restarts as restarts_in, stay_signed, with_client}
pub use Rattle.sporc_client.proofs.SoundRuns.{AreTypedItems, HasScalars, sound_and_typed_at}
pub use Rattle.sporc_client.proofs.TypedHistories.{IsTypedCommitted, change_read_of, changes_typed, found_typed, typed_at}
pub use Rattle.sporc_client.specs.Answers.{added, change_fault, discard_fault, edit_fault, journal_has_room, refusal_of}
pub use Rattle.sporc_client.specs.Calls.{mover_of}
pub use Rattle.sporc_client.specs.ClientModel.{ClientModel, state_of}
pub use Rattle.sporc_client.specs.Entries.{Chosen, bytes_made, current_key}
pub use Rattle.sporc_client.specs.Genuine.{Genuine}
pub use Rattle.sporc_client.specs.Log.{Accept, Change, Discard, Dropped, Edit, Logged, Submit, journal_of}
pub use Rattle.sporc_client.specs.PlainClient.{Opening, PlainClient, committed_of, line_of, me_of, opened, shown_after, shown_of}
pub use Rattle.sporc_client.specs.Rebasing.{beyond, rebased}
pub use Rattle.sporc_client.specs.Run.{Give, Happen, IsAt, IsRun, May, Move, Open, Restart, Restart as GoesBack, Setup, World, after as after_move, after_all, given, opening_of, start}
pub use Rattle.sporc_client.specs.Soundness.{IsSound}
pub use Rattle.sporc_client.specs.Step.{accepted, change_comes, edit_comes, form_coming, is_flight, keeps, log_of_entries, log_of_first, own_comes, replay, replay_from, restated, step}
pub use Rattle.sporc_client.specs.Submissions.{Drop, Due, Nothing, Refuse, Sign, Waiting, answered, due, entries_made, is_signing, signed, submission, submission_added}
pub use Rattle.sporc_client.specs.Typed.{AreEpochKeys, IsTypedChange, IsTypedEvent, IsTypedMove, IsTypedRun}
pub use Rattle.sporc_client.specs.declared.event.Event.{Event}
pub use Rattle.sporc_client.specs.declared.fault.SubmitFault.{SubmitFault}
pub use Rattle.sporc_client.specs.declared.limits.TheConstants.{MAX_EDIT_BYTES, MAX_EVENTS}
pub use Rattle.sporc_client.specs.declared.pending.Pending.{Pending}
pub use Rattle.sporc_client.specs.declared.submitted.Submitted.{Submitted}
pub use Rattle.sporc_script.specs.Commands.{InRange, spelling}
pub use Rattle.sporc_script.specs.Declarations.{declared_after, declared_by as declarations, is_client, is_declared, is_rogue, may_declare, may_follow, names_performers, none_declared}
pub use Rattle.sporc_script.specs.Grammar.{IsNext, IsPlayScript, play_line}
pub use Rattle.sporc_script.specs.Lines.{ReadsAs, lines_of, with_byte}
pub use Rattle.sporc_script.specs.Signs.{ForgeryInRange, MaySuffixInRange, SignedInRange, WhatInRange, signed_spelling_of, suffix_spelling, with_suffix}
pub use Rattle.sporc_script.specs.Spelling.{DeviceInRange, FurtherInRange, RosterChangeInRange, TextEditInRange, device_text, stated_spelling, text_edit_spelling}
pub use Rattle.sporc_script.specs.declared.command.Command.{Command}
pub use Rattle.sporc_script.specs.declared.command.Flip.{Flip}
pub use Rattle.sporc_script.specs.declared.command.Join.{Join}
pub use Rattle.sporc_script.specs.declared.command.Pair.{Pair}
pub use Rattle.sporc_script.specs.declared.command.RosterEdit.{RosterEdit}
pub use Rattle.sporc_script.specs.declared.command.Tree.{Tree}
pub use Rattle.sporc_script.specs.declared.member_role.MemberRole.{MemberRole}
pub use Rattle.sporc_script.specs.declared.play_line.PlayLine.{PlayLine}
pub use Rattle.sporc_script.specs.declared.roster_change.RosterChange.{RosterChange}
pub use Rattle.sporc_script.specs.declared.sign.Forgery.{Forgery}
pub use Rattle.sporc_script.specs.declared.sign.Suffix.{Suffix}
pub use Rattle.sporc_script.specs.declared.sign.What.{What}
pub use Rattle.sporc_script.specs.declared.text_edit.TextEdit.{TextEdit}
pub use Rattle.sporc_script.specs.declared.text_edit.TextEdit.TheVariants.{Insert, Remove}
pub use Rattle.sporc_report.proofs.Parts.{told_in_parts}
pub use Rattle.sporc_report.specs.ClientLines.{Stands, compare_line, hash_line, members_line, show_line}
pub use Rattle.sporc_report.specs.JournalLines.{journal_lines}
pub use Rattle.sporc_report.specs.Names.{hint_fault_name, open_fault_name, submit_fault_name}
pub use Rattle.sporc_play.specs.Batches.{AreOpen, HasRoom, IsAsked, Performs}
pub use Rattle.sporc_play.specs.Cast.{declared_member, device_by, first_ring, founder_by, founder_of, founders_by, founders_of, genesis_by, has_admin, is_founder, member_change, opener_by, openers_by}
pub use Rattle.sporc_play.specs.Cast.{pairs_among, private_of, public_of, rogue_by, setup_of, tree_of, unpaired_by, with_pair}
pub use Rattle.sporc_play.specs.Derived.{derived, first_key, pair_key, random_of}
pub use Rattle.sporc_play.specs.Forged.{IsSmallBody, base_by, derived_pairs, device_in, epoch_by, first_flipped, forged_body, forged_change, forged_entry, forged_header, forged_sealing, key_there}
pub use Rattle.sporc_play.specs.Forged.{BodyWith, kind_of, number_by, sealed_for, signed_by, spoiled, unsigned_by, value_at, version_by, wrap_flipped}
pub use Rattle.sporc_play.specs.Generated.{batch, batches, edits, generated_cast, generated_commands, generated_edit, generated_scene, gives, inserts, removes, seen_len, submits, summary_line}
pub use Rattle.sporc_play.specs.Joined.{client_with, entries_found, seat_joined, seat_joining, seat_open}
pub use Rattle.sporc_play.specs.Logs.{accepted_event, change_events, discard_events, edit_logged, events_by, first_accepts, given_by, given_events, log_after, logged_unless, logs_after}
pub use Rattle.sporc_play.specs.Logs.{restarted_log}
pub use Rattle.sporc_play.specs.Moves.{IsOneRun, moves_from, moves_of}
pub use Rattle.sporc_play.specs.Opening.{HasBlank, HasDeclared, HasRogue, HasSat, HaveDeclared, HaveRogues, HaveSeats, IsFresh, IsFreshRogue, IsNamed}
pub use Rattle.sporc_play.specs.Playing.{IsShortScript, IsWriteCause, PlayOutcome, ReadsScript, ReadsWhole}
pub use Rattle.sporc_play.specs.Report.{Compares, Reports, ReportsFrom, ReportsPrefix, Writes, accept_line, change_line, cut_line, discard_line, edited_line, entry_line, event_line, flip_line}
pub use Rattle.sporc_play.specs.Report.{flipped_line, give_line, hashes_of, join_line, line_by, next_number, not_open_line, restart_answer, restart_line, sign_line, signed_line}
pub use Rattle.sporc_play.specs.Report.{submit_line}
pub use Rattle.sporc_play.specs.Scene.{Effect, Scene, adds, after, after_each, commands_of, cuts, delta_by, edit_events, edit_size, effect_of, entries_at, entry_at, flip_byte, flipped}
pub use Rattle.sporc_play.specs.Scene.{flips, if_open, Joining, NotOpened, Opens, joining_by, joining_from, joining_in, joining_of, joining_with, joins, leaf_after, leaf_next, marks_of, moved}
pub use Rattle.sporc_play.specs.Scene.{nothing, opening, opening_moves, openings, restarts}
pub use Rattle.sporc_play.specs.Scene.{scene_moved, scene_opened, seen_by, signer_of, signs_by, submission_in, text_size, what_size, with_entry, with_more}
pub use Rattle.sporc_play.specs.Seats.{AreDrawn, ClientSubmitted, HasSubmitted, IsReady, IsRogueAt, IsSeatAt, IsSubmitted, answer_of, last_with, plain_in, rogue_devices, seat_logged, seat_restarted}
pub use Rattle.sporc_play.specs.Seats.{seated, submission_line}
pub use Rattle.sporc_play.specs.Signing.{HasSigned, forged_by, signing_line}
pub use Rattle.sporc_play.specs.Stage.{AppendsLineOf, AreDeclared, AreOfOneDocument, Becomes, CanPerform, HasSameMembers, Holds, IsCastOf, IsClientOf, IsReadyRogue, IsReadySeat, IsRogueOf, TakePart}
pub use Rattle.sporc_play.specs.Stage.{IsSeatOf, IsSignerOf, StandsFor}
pub use Rattle.sporc_play.specs.declared.cast.Cast.{Cast}
pub use Rattle.sporc_play.specs.declared.cast.Declared.{Declared}
pub use Rattle.sporc_play.specs.declared.fault.PlayFault.{PlayFault}
pub use Rattle.sporc_play.specs.declared.playing.TheConstants.{MAX_SCRIPT}
pub use Rattle.sporc_play.specs.declared.seat.Rogue.{Rogue}
pub use Rattle.sporc_play.specs.declared.seat.Seat.{Seat}
pub use Rattle.sporc_play.specs.declared.state.PlayState.{PlayState}
