-- The names of this crate and of those below that many of its proofs cite, passed on from one place.
pub use Rattle.sporc_base.specs.Lists.{StartsWith}
pub use Rattle.sporc_order.specs.OrderModel.{OrderModel}
pub use Rattle.sporc_order.specs.Replies.{Says}
pub use Rattle.sporc_order.specs.Sessions.{IsFramed, IsSendable, entries_after, only, step_of, submitted}
pub use Rattle.sporc_order.specs.declared.reply.Reply.{Reply}
pub use Rattle.sporc_order.specs.declared.session.Answer.{Answer}
pub use Rattle.sporc_order.specs.declared.session.Answer.TheVariants.{Close, Send, Silent}
pub use Rattle.sporc_order.specs.declared.tail.Unanswered.{Unanswered}
pub use Rattle.sporc_turn.specs.Knowing.{adding, copied, first_known, joined_with, seeing, splitting}
pub use Rattle.sporc_turn.specs.Log.{Agrees, Extends, own}
pub use Rattle.sporc_turn.specs.Passes.{IsPassOf, IsSameTurn, IsWorn, known_held, known_of, out_of, read_of, value_of}
pub use Rattle.sporc_turn.specs.declared.known.Known.{Known}
pub use Rattle.sporc_turn.specs.declared.limits.TheConstants.{MAX_TICKETS}
pub use Rattle.sporc_wire.proofs.Readings.{HandsOut-fed, HandsOut-next}
pub use Rattle.sporc_wire.specs.Messages.{HandsOut, Unread, fed, next, next_frame, next_read, next_unless, stream_of}
pub use Rattle.sporc_wire.specs.Stream.{FirstFrame, first_frame, partial, too_long, whole}
pub use Rattle.sporc_wire.specs.ToServer.{to_server_of}
pub use Rattle.sporc_wire.specs.declared.cutter.TheConstants.{MAX_BODY}
pub use Rattle.sporc_wire.specs.declared.fault.FrameFault.{FrameFault}
pub use Rattle.sporc_wire.specs.declared.to_server.ToServer.{ToServer}
pub use Rattle.sporc_wire.specs.declared.to_server.ToServer.TheVariants.{Hello, Pull, Submit}
pub use Rattle.std.proofs.KnownBytes.{Appends-nil, Appends-trans, Consumes-nil, Consumes-trans}
pub use Rattle.std.proofs.lemmas.Bool.{ltb-false, ltb-true}
pub use Rattle.std.proofs.lemmas.List.{drop_all, drop_at, length-drop, length-replicate, length-take, map-append}
pub use Rattle.std.proofs.lemmas.List.Elements.{All-cons, All-head, All-nil, All-tail}
pub use Rattle.std.specs.Io.KnownBytes.{Appends, Consumes}
pub use Rattle.sporc_bytes.specs.Fields.{counted}
pub use Rattle.sporc_outside.specs.Nets.{AreShutBehind, NetTold}
pub use Rattle.sporc_outside.specs.Streams.{Shuts, StreamTold}
pub use Rattle.sporc_outside.specs.Told.{AppendsItem, IsFalseIfTold, IsTrueIfTold, TakesItem}
pub use Rattle.sporc_entry.specs.declared.genesis.Genesis.{Genesis}
pub use Rattle.sporc_head.specs.HeadChecks.{head_fault}
pub use Rattle.sporc_head.specs.declared.refusal.Refusal.{Refusal}
pub use Rattle.sporc_serve.specs.Crowds.{IsCrowd, LeavesNet}
pub use Rattle.sporc_serve.specs.Endings.{Inlet, IsNext, IsNextEnd, IsSendEnd, ReadsFirst, TakesMessage, Waits, inlet, inlet_at}
pub use Rattle.sporc_serve.specs.Logs.{IsLogOf, OfDocument, added_of, by_of, entries_in, if_answered, log_of, order_at, placed, placed_by, unless_refused}
pub use Rattle.sporc_serve.specs.Sending.{CanBeSent, bytes_of, sent_of}
pub use Rattle.sporc_serve.specs.Traces.{Broken, Carries, Did, Exchange, GoesOn, Grows, IsEnd, Leads, NoneCloses, ServerStand, ServerTrace, answers_of, entries_of, greeted_after, messages_of, stand}
pub use Rattle.sporc_serve.specs.Traces.{stand_at, step_at}
pub use Rattle.sporc_serve.specs.Turns.{HasReadLast, IsAnswered, IsTurnEnd, LeavesUnanswered, Looks, SeesAndAdds, TakesTurn, end_of}
pub use Rattle.sporc_serve.specs.Visits.{AreBehind, AreFrom, IsServedSession, NoneUnkept, TellsOf, TookLinks, Visit, Visits, came, handed_back, visit, with_end}
pub use Rattle.sporc_serve.specs.declared.end.SessionEnd.{SessionEnd}
pub use Rattle.sporc_serve.specs.declared.end.SessionEnd.TheVariants.{BadFrame, Closed, LinkEnded, LinkFault, Memory, Unkept, Worn}
pub use Rattle.sporc_serve.specs.declared.fault.ServeFault.{ServeFault}
pub use Rattle.sporc_serve.specs.declared.item.Item.{Item}
pub use Rattle.sporc_serve.specs.declared.item.Item.TheVariants.{Opened, Placed}
