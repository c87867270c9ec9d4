use Rattle.std.proofs.Common.{Ok, ap, ◌∙◌}
use Rattle.sporc_serve.proofs.Common.{known_of, read_of, inlet_at}
use Rattle.sporc_serve.proofs.Stepping.{found_framed, found_unworn, step_ends, step_waits, step_answers}
use Rattle.sporc_serve.proofs.session.step.Goals as goal

pub returns-in-Err-clause-goes : goal.returns-in-Err-clause-goes
returns-in-Err-clause-goes g c =
    step_ends (known_of c.args.pass) (g.L.Stream.told c.args.link.now).left (g.L.Stream.told c.next_message.new.link).left (g.L.Stream.told c.args.link.now).written
    (g.L.Stream.told c.next_message.new.link).written (g.L.Stream.told c.args.link.now).faults (g.L.Stream.told c.next_message.new.link).faults c.args.frames.now
    c.next_message.new.frames c.args.session.now c.next_message.result c.next_message.ensures.next c.next_message.ensures.written c.next_message.ensures.kept
    c.in-Err.end c.in-Err.is

pub returns-in_default-clause-goes : goal.returns-in_default-clause-goes
returns-in_default-clause-goes g c =
    step_waits (known_of c.args.pass) (g.L.Stream.told c.args.link.now).left (g.L.Stream.told c.next_message.new.link).left (g.L.Stream.told c.args.link.now).written
    (g.L.Stream.told c.next_message.new.link).written (g.L.Stream.told c.args.link.now).faults (g.L.Stream.told c.next_message.new.link).faults c.args.frames.now
    c.next_message.new.frames c.args.session.now c.next_message.result c.next_message.ensures.next c.next_message.ensures.written c.next_message.ensures.kept
    (c.in-Ok.is ∙ ap Ok c.in_default.is)

pub answer-requires-clause-framed : goal.answer-requires-clause-framed
answer-requires-clause-framed g c =
    found_framed (inlet_at (g.L.Stream.told c.args.link.now) c.args.frames.now)
    (inlet_at (g.L.Stream.told c.next_message.new.link) c.next_message.new.frames) c.next_message.result
    c.in-Some.message (c.in-Ok.is ∙ ap Ok c.in-Some.is) c.next_message.ensures.next

pub returns-clause-goes : goal.returns-clause-goes
returns-clause-goes g c =
    step_answers (known_of c.args.pass) (g.L.Stream.told c.args.link.now).left (g.L.Stream.told c.next_message.new.link).left (g.L.Stream.told c.args.link.now).written
    (g.L.Stream.told c.next_message.new.link).written (g.L.Stream.told c.args.link.now).faults (g.L.Stream.told c.next_message.new.link).faults c.args.frames.now
    c.next_message.new.frames c.args.session.now c.next_message.result c.next_message.ensures.next c.next_message.ensures.written c.next_message.ensures.kept
    c.in-Some.message (known_of c.answer.result.1) (g.L.Stream.told c.answer.new.link).left (g.L.Stream.told c.answer.new.link).written (g.L.Stream.told c.answer.new.link).faults
    c.answer.new.session c.answer.result.0 (c.in-Ok.is ∙ ap Ok c.in-Some.is) c.answer.ensures.goes

pub returns-in-Err-clause-worn : goal.returns-in-Err-clause-worn
returns-in-Err-clause-worn g c =
    found_unworn (inlet_at (g.L.Stream.told c.args.link.now) c.args.frames.now)
    (inlet_at (g.L.Stream.told c.next_message.new.link) c.next_message.new.frames) c.next_message.result
    c.in-Err.end (read_of c.args.pass) c.in-Err.is c.next_message.ensures.next
