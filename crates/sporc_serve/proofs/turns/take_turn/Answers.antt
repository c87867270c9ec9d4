use Rattle.sporc_serve.proofs.Common.{known_of, known_held, value_of, log_of, added_of, if_answered}
use Rattle.sporc_serve.proofs.Turning.{held_is, extends_after, turn_done, turn_worn}
use Rattle.sporc_serve.proofs.Stepping.{turn_sendable}
use Rattle.sporc_serve.proofs.turns.take_turn.Goals as goal

pub give-requires-clause-log : goal.give-requires-clause-log
give-requires-clause-log g c =
    let h = c.in-Ok.held in
    let v = value_of h in
    let w = value_of c.step_held-reply.new.held in
    extends_after (known_of c.args.pass) (known_held c.step_held-reply.new.held) (log_of v.order v.numbers.items) (log_of w.order w.numbers.items) c.number-number.result
    (if_answered c.step_held-reply.result (added_of v.order c.args.session.now c.args.message.now))
    (held_is c.in-Ok.held c.step_held-reply.new.held c.step_held-reply.ensures.turn c.in-Ok.ensures.held) c.number-number.ensures.value c.step_held-reply.ensures.log

pub returns-in-Ok-clause-sendable : goal.returns-in-Ok-clause-sendable
returns-in-Ok-clause-sendable g c =
    turn_sendable c.step_held-reply.result c.answered.result (c.step_held-reply.ensures.sendable c.requires.framed) c.answered.ensures.ok c.answered.ensures.err

pub returns-in-Ok-clause-turn : goal.returns-in-Ok-clause-turn
returns-in-Ok-clause-turn g c genesis log =
    let h = c.in-Ok.held in
    let v = value_of h in
    let w = value_of c.step_held-reply.new.held in
    turn_done genesis (known_of c.args.pass) (known_held c.step_held-reply.new.held) (known_of c.give.result) c.args.session.now c.step_held-reply.new.session c.args.message.now
    v.order v.numbers.items (log_of w.order w.numbers.items) c.number-number.result c.step_held-reply.result c.answered.result log c.in-Ok.ensures.found v.matched
    c.number-number.ensures.value c.step_held-reply.ensures.reply c.step_held-reply.ensures.greeted c.step_held-reply.ensures.unchanged c.step_held-reply.ensures.log
    (held_is c.in-Ok.held c.step_held-reply.new.held c.step_held-reply.ensures.turn c.in-Ok.ensures.held) c.give.ensures.known c.answered.ensures.ok c.answered.ensures.err

pub returns-in-Err-clause-turn : goal.returns-in-Err-clause-turn
returns-in-Err-clause-turn g c genesis log =
    turn_worn genesis (known_of c.args.pass) (known_of c.in-Err.pass) c.args.session.now c.args.message.now c.in-Err.worn.0 c.in-Err.ensures.worn c.in-Err.ensures.unchanged
