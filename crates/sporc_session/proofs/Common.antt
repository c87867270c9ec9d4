-- The names of this crate and of those below that many of its proofs cite, passed on from one place.
pub use Rattle.sporc_shared.specs.Calls.{CallGives, IsCall, SubmitsAt}
pub use Rattle.sporc_shared.specs.Items.{Happened, IsAllowed, Item, Opened, Past, by_of, client_of, items_of, with_events}
pub use Rattle.sporc_shared.specs.Looks.{IsLookAt, key_at, membership_of}
pub use Rattle.sporc_shared.specs.Passes.{HasFront, IsPassOf}
pub use Rattle.sporc_shared.specs.declared.answered.Answered.{Answered}
pub use Rattle.sporc_turn.proofs.Lists.{drop_seen, longer_is, own_append, starts_length, starts_self}
pub use Rattle.sporc_turn.specs.Log.{Agrees, longer, own}
pub use Rattle.sporc_turn.specs.Passes.{IsWorn, known_of, watermark_of, read_of}
pub use Rattle.sporc_turn.specs.declared.known.Known.{Known}
pub use Rattle.sporc_turn.specs.declared.pass.Pass.{Pass}
pub use Rattle.sporc_turn.specs.declared.turn.Worn.{Worn}
pub use Rattle.sporc_wire.specs.declared.cutter.TheConstants.{MAX_BODY}
pub use Rattle.sporc_wire.specs.declared.to_client.ToClient.{ToClient}
pub use Rattle.sporc_wire.specs.declared.to_server.ToServer.{ToServer}
pub use Rattle.std.proofs.lemmas.Bool.{and_parts, cases_lt, eqb-true, leb-false, leb-true, ltb-false, not-false, not-true}
pub use Rattle.std.proofs.lemmas.List.{append-nil, append_cancel_left, drop-append-le, drop_all, length-append, nil_from_length, take-append-le, take_all}
pub use Rattle.std.proofs.lemmas.List.Elements.{All-append, All-cons, All-head, All-nil, All-pop, All-push, All-tail}
pub use Rattle.std.proofs.lemmas.Result.{err_from_is_err_and}
pub use Rattle.std.specs.Io.KnownBytes.{IsAtEnd}
pub use Rattle.std.specs.Prelude.{All, Contains, Err, IfErr, IfOk, IfSome, IsSomeAnd, MatchResult, Ok, OnOk, Result, flat_map, ⊤, ◌<◌, ◌⊎◌}
pub use Rattle.std.specs.Result.{result_and, result_err}
pub use Rattle.std.specs.Vec.Iter.{into_iter_items}
pub use Rattle.sporc_base.specs.FirstFault.{AnswersUnless, first_of, unless}
pub use Rattle.sporc_base.specs.Lists.{StartsWith}
pub use Rattle.sporc_outside.specs.Counts.{Rose}
pub use Rattle.sporc_outside.specs.Told.{AppendsItem, AppendsItems}
pub use Rattle.sporc_delta.specs.Marks.{Keep, Mark, Remove, base_len, insert_marks, insertion, keep_marks, removal, remove_marks}
pub use Rattle.sporc_head.specs.declared.limits.TheConstants.{MAX_ENTRIES}
pub use Rattle.sporc_head.specs.declared.refusal.Refusal.{Refusal}
pub use Rattle.sporc_client.proofs.Calls.{added_lead, put_other, replay_append, replay_opening}
pub use Rattle.sporc_client.specs.Answers.{accept_fault, added, change_fault, edit_fault, has_right, is_out}
pub use Rattle.sporc_client.specs.Log.{Accept, Change, Edit, Logged}
pub use Rattle.sporc_client.specs.PlainClient.{Opening, PlainClient, line_of, opened, shown_after}
pub use Rattle.sporc_client.specs.Step.{accepted, change_comes, edit_comes, is_flight, own_comes, replay_from, step}
pub use Rattle.sporc_client.specs.Submissions.{submission, submission_added}
pub use Rattle.sporc_client.specs.declared.fault.AcceptFault.{AcceptFault}
pub use Rattle.sporc_client.specs.declared.fault.EditFault.{EditFault}
pub use Rattle.sporc_client.specs.declared.fault.SubmitFault.{SubmitFault}
pub use Rattle.sporc_client.specs.declared.submitted.Submitted.{Submitted}
pub use Rattle.sporc_script.specs.declared.editor_line.EditorLine.{EditorLine}
pub use Rattle.sporc_session.specs.Acts.{Act, AreInOrder, Ask, Check, FitAll, Fits, Greet, Look, Look as LookAct, Looked, Pull, Send, Submit, Take, all_of, answers_by}
pub use Rattle.sporc_exchange.specs.Replies.{Ordered, Rejected, ServerReply}
pub use Rattle.sporc_session.specs.Acts.{items_by, messages_by, moment_after, words_by}
pub use Rattle.sporc_exchange.specs.Replies.{handed_out, reply_message}
pub use Rattle.sporc_session.specs.Asking.{AskFails, GatherStopped, Gathered, Unsent}
pub use Rattle.sporc_exchange.specs.Asking.{IsReply, SilentFor, UnsentFor}
pub use Rattle.sporc_session.specs.Asking.{asking, taking}
pub use Rattle.sporc_exchange.specs.Asking.{silent, unsent, wrong}
pub use Rattle.sporc_session.specs.Editing.{AskedDid, IsAtFront, IsWornFault, LineDid, LinesDid, LinesDone, StatedDid, seen_of}
pub use Rattle.sporc_session.specs.Endings.{AcceptGives, Cause, Did, IsNoMessage, IsSubmitting, IsTaking, IsWrongAnswer, Stopped, Submission, SubmitCause, SubmitGives, TakeCause}
pub use Rattle.sporc_exchange.specs.Replies.{IsAnswer}
pub use Rattle.sporc_session.specs.Endings.{takes_of}
pub use Rattle.sporc_session.specs.Lines.{AnswersAt, AreLinesDone, Asked, Changes, Edits, IsDone, IsEditAt, IsOfLine, LineCause, LineEnd, LineFails, LineGives, asked_by}
pub use Rattle.sporc_session.specs.Outcomes.{DidOrStopped, Drew, DrewFew, GatheredAll, SubmittedOne, TookAll, TookOne}
pub use Rattle.sporc_session.specs.Points.{IsClientAt, IsPoint}
pub use Rattle.sporc_session.specs.Protocol.{Asking, Between, Checking, Drains, Goes, Greeting, IsQuiet, Leads, Mode, Pulling, Sending, Stuck, Submits, Taking, Then, always, asks, drained, drains}
pub use Rattle.sporc_session.specs.Protocol.{greets, is_gone, is_there, is_unsettled, looks, message_due, pulls, rejected, rounds_begun, sends, submits_entry, submits_none, takes}
pub use Rattle.sporc_session.specs.Replies.{HasReadFor, checked_of, edited_of, made_of, plain_of, taken_of}
pub use Rattle.sporc_session.specs.Sessions.{EditorsDid, FirstPhase, IsSession, Rounds, SecondPhase, SessionEnds, doesnt_settle, settles, stops}
pub use Rattle.sporc_session.specs.Traces.{CountsSame, IsAllowedLog, KnowsMore, Stand, Trace, stand, stand_at}
pub use Rattle.sporc_exchange.specs.Wires.{Exchanged, InboxModel, IsBadFrame, IsCut, IsLastFrom, LinkStand, LinkTold, empty_inbox, link_at, link_stand, link_told, spelled}
pub use Rattle.sporc_session.specs.declared.editor.Seen.{Seen}
pub use Rattle.sporc_session.specs.declared.fault.SessionFault.{SessionFault}
