use Rattle.std.proofs.Common.{[], false, Some}
use Rattle.sporc_serve.proofs.Common.{known_of, stream_of}
use Rattle.sporc_serve.proofs.Stepping.{begins_leads, session_ended}
use Rattle.sporc_serve.proofs.session.serve_link.Goals as goal

pub returns-clause-session : goal.returns-clause-session
returns-clause-session g c genesis log =
    session_ended genesis (known_of c.args.pass) (known_of c.go_on-end.result.1) (g.L.Stream.told c.args.link.now)
    (g.L.Stream.told c.go_on-end.new.link) (g.L.Stream.told c.shut.new.self) (stream_of []) false c.go_on-end.result.0
    (begins_leads genesis (known_of c.args.pass) (known_of c.go_on-end.result.1) (g.L.Stream.told c.args.link.now).left (g.L.Stream.told c.go_on-end.new.link).left
    (g.L.Stream.told c.args.link.now).written (g.L.Stream.told c.go_on-end.new.link).written (g.L.Stream.told c.args.link.now).faults (g.L.Stream.told c.go_on-end.new.link).faults
    c.new-frames.result (stream_of []) c.new-session.result false (Some c.go_on-end.result.0) log c.new-frames.ensures.value c.new-session.ensures.value
    c.go_on-end.ensures.goes)
    c.go_on-end.ensures.shut
    c.shut.ensures.did
