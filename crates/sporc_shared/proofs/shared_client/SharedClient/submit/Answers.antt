use Rattle.std.proofs.Common.{◌≡◌, ℕ, ap, ◌∙◌}
use Rattle.sporc_shared.proofs.Common.{seeing, known_held, known_of, value_of, submission_added, items_of, past_of, with_events}
use Rattle.sporc_shared.proofs.Calling.{call_extends, call_front, call_is, submission_by}
use Rattle.sporc_shared.proofs.shared_client.SharedClient.submit.Goals as goal

pub give-requires-clause-log : goal.give-requires-clause-log
give-requires-clause-log g c =
    let k = known_of c.args.pass in
    let before = past_of (value_of c.in_ok-held.held).client.value in
    let held : known_held c.submit-answer.new.held ≡ seeing k (items_of before) = rw c.submit-answer.ensures.turn c.in_ok-held.ensures.held in
    call_extends k _ before _ _ held c.submit-answer.ensures.past (submission_by c.submit-answer.result.0 c.number-by.result k.number c.number-by.ensures.value)

pub returns-clause-call : goal.returns-clause-call
returns-clause-call g c =
    let k = known_of c.args.pass in
    let before = past_of (value_of c.in_ok-held.held).client.value in
    let held : known_held c.submit-answer.new.held ≡ seeing k (items_of before) = rw c.submit-answer.ensures.turn c.in_ok-held.ensures.held in
    let answer = c.submit-answer.result.0 in
    let became = c.submit-answer.ensures.past ∙ ap (λ (n : ℕ). with_events before (submission_added n answer)) c.number-by.ensures.value in
    let call =
    call_is k _ (known_of c.give.result.pass) before _ _ held became c.in_ok-held.ensures.found c.give.ensures.known c.give.ensures.agrees c.submit-answer.ensures.allowed in
    rw c.give.ensures.answer (before, call, c.submit-answer.ensures.answer)

pub returns-clause-front : goal.returns-clause-front
returns-clause-front g c = rw c.give.ensures.front (call_front _ (known_of c.give.result.pass) _ c.submit-answer.result.1 c.give.ensures.known c.submit-answer.ensures.events)
