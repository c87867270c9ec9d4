use Rattle.std.proofs.Common.{◌≡◌, ◌∙◌, refl, Err}
use Rattle.sporc_serve.proofs.Common.{known_of, read_of, out_of}
use Rattle.sporc_outside.proofs.Returning.{shut_none}
use Rattle.sporc_serve.specs.declared.fault.ServeFault.TheVariants as faults
use Rattle.sporc_serve.proofs.Serving.{serves_none, none_out, serves}
use Rattle.sporc_serve.proofs.server.serve_kept.Goals as goal

pub returns-in_default-clause-served : goal.returns-in_default-clause-served
returns-in_default-clause-served g c =
    serves_none c.args.kept.order c.args.kept.order
    (g.N.Links.told c.args.net.now)
    (g.N.Links.told c.listen.new.self) c.args.sessions
    (Err faults.ListenFault) refl c.listen.ensures.coming c.listen.ensures.returned c.in_default.ensures.count.failed

pub returns-in-Err-clause-served : goal.returns-in-Err-clause-served
returns-in-Err-clause-served g c =
    serves_none c.args.kept.order c.in-Err.kept.order
    (g.N.Links.told c.args.net.now)
    (g.N.Links.told c.listen.new.self) c.args.sessions
    (Err faults.Memory) c.in-Err.ensures.returned c.listen.ensures.coming c.listen.ensures.returned tt

pub unreachable-requires : goal.unreachable-requires
unreachable-requires g c =
    let none : out_of c.crowd-answer.result.1 ≡ 0 =
    none_out c.args.kept.order (known_of c.in-Ok-open_kept.both.1)
    (known_of c.crowd-answer.result.1) (read_of c.crowd-answer.result.1)
    (g.N.Links.told c.args.net.now)
    (g.N.Links.told c.listen.new.self)
    (g.N.Links.told c.crowd-answer.new.net)
    c.args.sessions c.crowd-answer.result.0 c.in-Ok-open_kept.ensures.first c.crowd-answer.ensures.crowd in
    c.in-Err-close_kept.ensures.away.1 (c.in-Err-close_kept.ensures.away.0 ∙ none)

pub returns-clause-served : goal.returns-clause-served
returns-clause-served g c =
    serves c.args.kept.order (known_of c.in-Ok-open_kept.both.1)
    (known_of c.crowd-answer.result.1) (read_of c.crowd-answer.result.1)
    (g.N.Links.told c.args.net.now)
    (g.N.Links.told c.listen.new.self)
    (g.N.Links.told c.crowd-answer.new.net)
    c.args.sessions c.crowd-answer.result.0 c.in-Ok-open_kept.ensures.first c.crowd-answer.ensures.crowd c.in-Ok-close_kept.kept.order c.in-Ok-close_kept.ensures.order
    c.in-Ok-close_kept.ensures.agrees c.listen.ensures.coming c.listen.ensures.returned c.listen.ensures.count.kept (λ low. (c.crowd-answer.result.1, refl, low))

pub returns-in_default-clause-shut : goal.returns-in_default-clause-shut
returns-in_default-clause-shut g c =
    shut_none (g.N.Links.told c.args.net.now).returned (g.N.Links.told c.listen.new.self).returned c.listen.ensures.returned

pub returns-in-Err-clause-shut : goal.returns-in-Err-clause-shut
returns-in-Err-clause-shut g c =
    shut_none (g.N.Links.told c.args.net.now).returned (g.N.Links.told c.listen.new.self).returned c.listen.ensures.returned
