-- The names of this crate and of those below that many of its proofs cite, passed on from one place.
pub use Rattle.std.proofs.lemmas.Bool.{cases_lt, le-ltb}
pub use Rattle.std.proofs.lemmas.List.{append-nil, length-append, length-take-le}
pub use Rattle.std.proofs.lemmas.Result.{err_from_is_err_and}
pub use Rattle.std.specs.Io.KnownBytes.{Appends, Consumes}
pub use Rattle.std.specs.Prelude.{IfErr, IfOk, IfSome, OnErr, OnOk, if◌then◌else◌, ◌≢◌}
pub use Rattle.sporc_exchange.specs.Asking.{AskEnds, AskFails, Asks, IsOutcomeOf, IsReply, IsSilent, ReceiveEnds, SilentFor, SubmitEnds, Took, Unsent, silent, wrong}
pub use Rattle.sporc_exchange.specs.Replies.{IsAnswer, Ordered, Rejected, ServerReply, reply_message}
pub use Rattle.sporc_exchange.specs.Wires.{Exchanged, InboxInvariant, InboxModel, IsLastFrom, LinkStand, Received, link_at, more_taken, spelled, unread_of}
pub use Rattle.sporc_exchange.specs.declared.fault.ExchangeFault.{ExchangeFault}
pub use Rattle.sporc_head.specs.declared.refusal.Refusal.{Refusal}
pub use Rattle.sporc_outside.specs.Counts.{Rose}
pub use Rattle.sporc_wire.specs.Messages.{HandsOut, Unread, counted_to_end, fed, framed, next}
pub use Rattle.sporc_wire.specs.Stream.{FirstFrame, first_frame, frame, frame_of_len, partial, too_long, whole}
pub use Rattle.sporc_wire.specs.declared.cutter.TheConstants.{MAX_BODY}
pub use Rattle.sporc_wire.specs.declared.to_client.ToClient.{ToClient}
pub use Rattle.sporc_wire.specs.declared.to_server.ToServer.{ToServer}
