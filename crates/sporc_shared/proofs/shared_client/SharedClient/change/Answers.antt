use Rattle.std.proofs.Common.{◌≡◌, ℕ, ap, ◌∙◌}
use Rattle.sporc_shared.proofs.Common.{seeing, known_held, known_of, value_of, added, Change, items_of, past_of, with_events}
use Rattle.sporc_shared.proofs.Calling.{added_by, call_extends, call_front, call_is}
use Rattle.sporc_shared.proofs.shared_client.SharedClient.change.Goals as goal

pub give-requires-clause-log : goal.give-requires-clause-log
give-requires-clause-log g c =
    let k = known_of c.args.pass in
    let before = past_of (value_of c.in_ok-held.held).client.value in
    let held : known_held c.change-answer.new.held ≡ seeing k (items_of before) = rw c.change-answer.ensures.turn c.in_ok-held.ensures.held in
    call_extends k _ before _ _ held c.change-answer.ensures.past (added_by c.change-answer.result.0 (Change c.number-by.result c.args.change) k.number c.number-by.ensures.value)

pub returns-clause-call : goal.returns-clause-call
returns-clause-call g c =
    let k = known_of c.args.pass in
    let before = past_of (value_of c.in_ok-held.held).client.value in
    let answer = c.change-answer.result.0 in
    let held : known_held c.change-answer.new.held ≡ seeing k (items_of before) = rw c.change-answer.ensures.turn c.in_ok-held.ensures.held in
    let became = c.change-answer.ensures.past ∙ ap (λ (n : ℕ). with_events before (added answer (Change n c.args.change))) c.number-by.ensures.value in
    let call =
    call_is k _ (known_of c.give.result.pass) before _ _ held became c.in_ok-held.ensures.found c.give.ensures.known c.give.ensures.agrees c.change-answer.ensures.allowed in
    rw c.give.ensures.answer (before, call, c.change-answer.ensures.fault)

pub returns-clause-front : goal.returns-clause-front
returns-clause-front g c = rw c.give.ensures.front (call_front _ (known_of c.give.result.pass) _ c.change-answer.result.1 c.give.ensures.known c.change-answer.ensures.events)

pub returns-clause-ok : goal.returns-clause-ok
returns-clause-ok g c = rw (c.give.ensures.answer, c.give.ensures.front) c.change-answer.ensures.ok
