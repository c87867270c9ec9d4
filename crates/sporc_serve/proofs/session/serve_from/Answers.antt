use Rattle.std.proofs.Common.{None, Some, [], false, subst, sym}
use Rattle.sporc_serve.proofs.Common.{known_of, Unread, next, stream_of, to_server_of, ServerStand, stand_at, Carries, Leads}
use Rattle.sporc_serve.proofs.Stepping.{first_leads}
use Rattle.sporc_serve.proofs.session.serve_from.Goals as goal

pub returns-in-Some-clause-goes : goal.returns-in-Some-clause-goes
returns-in-Some-clause-goes g c unread here after =
    first_leads (known_of c.args.pass) (known_of c.answer-end.result.1) (g.L.Stream.told c.args.link.now).left (g.L.Stream.told c.answer-end.new.link).left
    (g.L.Stream.told c.args.link.now).written (g.L.Stream.told c.answer-end.new.link).written (g.L.Stream.told c.args.link.now).faults (g.L.Stream.told c.answer-end.new.link).faults
    unread (next to_server_of unread).after c.new-session.result c.answer-end.new.session c.answer-end.result.0 (Some c.in-Some.end) c.new-session.ensures.value c.in-Some.is
    (c.answer-end.ensures.goes unread here)

pub returns-in-None-clause-goes : goal.returns-in-None-clause-goes
returns-in-None-clause-goes g c unread here after =
    let b : ServerStand =
    stand_at (known_of c.args.pass) (g.L.Stream.told c.args.link.now) unread false in
    let b' : ServerStand =
    stand_at (known_of c.answer-end.result.1) (g.L.Stream.told c.answer-end.new.link) c.args.frames.now c.answer-end.new.session in
    let b'' : ServerStand =
    stand_at (known_of c.go_on.result.1) (g.L.Stream.told c.go_on.new.link) (stream_of []) false in
    let first : Leads b b' None =
    first_leads (known_of c.args.pass) (known_of c.answer-end.result.1) (g.L.Stream.told c.args.link.now).left (g.L.Stream.told c.answer-end.new.link).left
    (g.L.Stream.told c.args.link.now).written (g.L.Stream.told c.answer-end.new.link).written (g.L.Stream.told c.args.link.now).faults (g.L.Stream.told c.answer-end.new.link).faults
    unread c.args.frames.now c.new-session.result c.answer-end.new.session c.answer-end.result.0 None c.new-session.ensures.value c.in-None.is
    (subst (λ (u : Unread). Carries
    (stand_at (known_of c.args.pass) (g.L.Stream.told c.args.link.now) unread c.new-session.result)
    (stand_at (known_of c.answer-end.result.1) (g.L.Stream.told c.answer-end.new.link) u c.answer-end.new.session) c.answer-end.result.0) (sym after) (c.answer-end.ensures.goes unread here)) in
    λ genesis a bytes xs log did. (let went = first genesis a bytes xs log did in c.go_on.ensures.goes genesis a went.0 went.1 log went.2)
