use Rattle.sporc_shared.proofs.Common.{known_of, value_of, past_of}
use Rattle.sporc_shared.proofs.Calling.{call_front, left_extends, left_is}
use Rattle.sporc_shared.proofs.shared_client.SharedClient.is_flight.Goals as goal

pub give-requires-clause-log : goal.give-requires-clause-log
give-requires-clause-log g c = rw c.is_flight-is.ensures.unchanged (left_extends (known_of c.args.pass) _ (past_of (value_of c.in_ok-held.held).client.value) c.in_ok-held.ensures.held)

pub returns-clause-call : goal.returns-clause-call
returns-clause-call g c =
    let before = past_of (value_of c.in_ok-held.held).client.value in
    let known = rw c.is_flight-is.ensures.unchanged at c.give.ensures.known in
    let agrees = rw c.is_flight-is.ensures.unchanged at c.give.ensures.agrees in
    let call = left_is (known_of c.args.pass) _ (known_of c.give.result.pass) before c.in_ok-held.ensures.held c.in_ok-held.ensures.found known agrees c.is_flight-is.ensures.allowed in
    rw c.give.ensures.answer (before, call, c.is_flight-is.ensures.is)

pub returns-clause-front : goal.returns-clause-front
returns-clause-front g c = rw c.give.ensures.front (call_front _ (known_of c.give.result.pass) (past_of (value_of c.in_ok-held.held).client.value) _ (rw c.is_flight-is.ensures.unchanged at c.give.ensures.known) c.is_flight-is.ensures.events)
