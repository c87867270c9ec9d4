-- The names of this crate and of those below that many of its proofs cite, passed on from one place.
pub use Rattle.sporc_order.specs.OrderModel.{OrderModel}
pub use Rattle.sporc_order.specs.declared.tail.Tail.{Ghosts}
pub use Rattle.sporc_serve.specs.Endings.{Inlet, ReadsFirst, inlet_at}
pub use Rattle.sporc_serve.specs.Logs.{IsLogOf, by_of, order_at, placed}
pub use Rattle.sporc_serve.specs.Crowds.{IsOther}
pub use Rattle.sporc_serve.specs.Served.{IsWornAt, log_at_first}
pub use Rattle.sporc_serve.specs.Traces.{Leads, LeadsFrom, ServerStand, stand, stand_at}
pub use Rattle.sporc_serve.specs.Visits.{IsServedSession, TellsOf, TookLinks, Visit, visit, with_end}
pub use Rattle.sporc_serve.specs.declared.desk.Desk.{Desk}
pub use Rattle.sporc_serve.specs.declared.end.SessionEnd.{SessionEnd}
pub use Rattle.sporc_serve.specs.declared.fault.ServeFault.{ServeFault}
pub use Rattle.sporc_serve.specs.declared.item.Item.{Item}
pub use Rattle.sporc_turn.specs.Knowing.{first_known, splitting}
pub use Rattle.sporc_turn.specs.Passes.{IsPassOf, known_of, read_of}
pub use Rattle.sporc_turn.specs.declared.known.Known.{Known}
pub use Rattle.sporc_turn.specs.declared.pass.Pass.{Pass}
pub use Rattle.sporc_turn.specs.declared.turn.Turn.{Turn}
pub use Rattle.sporc_wire.specs.Messages.{Unread, next, stream_of}
pub use Rattle.sporc_wire.specs.declared.to_server.ToServer.{ToServer}
pub use Rattle.sporc_wire.specs.declared.to_server.ToServer.TheVariants.{Hello, Pull}
pub use Rattle.std.proofs.lemmas.List.{drop_all, length-map, length-reverse, map-append, reverse-append, reverse-reverse}
pub use Rattle.std.proofs.lemmas.Slice.Eq.{bytes_eq-Decides}
pub use Rattle.std.specs.List.{AllZip, list_any, position_from}
pub use Rattle.sporc_outside.specs.Nets.{NetTold}
pub use Rattle.sporc_outside.specs.Streams.{Shuts, StreamTold}
pub use Rattle.std.proofs.lemmas.Option.{same_Some, slice_get-map}
pub use Rattle.std.proofs.lemmas.List.Elements.{All-head, All-nil, All-tail}
pub use Rattle.sporc_serve.proofs.Tracing.{starts_same, starts_then}
pub use Rattle.sporc_serve.proofs.Serving.{first_is, none_of}
pub use Rattle.sporc_serve.proofs.Links.{IsLastTicket, last_ticket, links_before, links_more, links_none}
pub use Rattle.sporc_entry.specs.declared.genesis.Genesis.{Genesis}
pub use Rattle.sporc_docs.specs.Crowds.{AllSit, IsCrowd}
pub use Rattle.sporc_docs.specs.Hands.{AllHands, HasFirst, HasRoom, HavePasses, HaveRoom, IsEmpty, Joins, JoinsAt, LogsBegin, Splits, SplitsAt, column, pass_at}
pub use Rattle.sporc_docs.specs.Lists.{AreApart, is_of, list_of, place_of, route_of}
pub use Rattle.sporc_docs.specs.Locks.{AreBack, AreEnding, AreOpen, Closes, Ends, IsBack, KnowsFirst}
pub use Rattle.sporc_docs.specs.Machine.{Asked, Event, IsIsolated, Machine, after_event, answers_of, answers_to, asked_at, asked_by, asked_of, at_first, behind, bound_by, bound_in, bound_with}
pub use Rattle.sporc_docs.specs.Machine.{is_bound_to, is_document, is_later, projected}
pub use Rattle.sporc_docs.specs.Served.{AreBound, AreKept, AreServed, AttendAll, AttendsDocument, IsOneOf, IsServedDocument, Session, as_served, visits_of}
pub use Rattle.sporc_docs.specs.Sessions.{Became, IsBound, IsUnboundEnd, Serves, Sits, named_by}
pub use Rattle.sporc_docs.specs.declared.hands.Hand.{Hand}
pub use Rattle.sporc_docs.specs.declared.locks.Locks.{Locks}
