use Rattle.std.proofs.Common.{ap, ◌∙◌, Ok}
use Rattle.sporc_session.proofs.Common.{link_at}
use Rattle.sporc_wire.specs.declared.to_server.ToServer.TheVariants as to_server
use Rattle.sporc_session.proofs.Tracing.{and_then}
use Rattle.sporc_session.proofs.Rounding.{sent_ordered, sent_rejected, sent_stopped}
use Rattle.sporc_session.proofs.Wearing.{asked_worn}
use Rattle.sporc_session.proofs.round.offer.Goals as goal

pub returns-in-None-clause-did : goal.returns-in-None-clause-did
returns-in-None-clause-did g c words count ready n = record { ends = sent_ordered (c.in-Ok.is ∙ ap Ok c.in-None.is) c.send_entry-answer.ensures.ok }

pub returns-in-Ok-clause-did : goal.returns-in-Ok-clause-did
returns-in-Ok-clause-did g c words count ready n =
    and_then (sent_rejected c.as_slice.ensures.value (c.in-Ok.is ∙ ap Ok c.in-Some.is) c.send_entry-answer.ensures.ok) (c.settle.ensures.did words count ready n)

pub returns-clause-did : goal.returns-clause-did
returns-clause-did g c words count ready n = record { ends = sent_stopped c.in-Err.is c.send_entry-answer.ensures.err }

pub returns-clause-read : goal.returns-clause-read
returns-clause-read g c =
    asked_worn c.args.pass (link_at (g.L.Stream.told c.args.link.now) c.args.inbox.now)
    (link_at (g.L.Stream.told c.send_entry-answer.new.link) c.send_entry-answer.new.inbox)
    (to_server.Submit c.args.entry) c.send_entry-answer.result c.in-Err.fault c.in-Err.is c.send_entry-answer.ensures.err
