use Rattle.std.proofs.Common.{None, Some, Option, refl, subst, ◌∙◌}
use Rattle.sporc_serve.proofs.Common.{known_of, SessionEnd, ServerStand, stand_at, Carries}
use Rattle.sporc_serve.proofs.Stepping.{leads_same, leads_then}
use Rattle.sporc_serve.proofs.session.go_on.Goals as goal

pub loop-init : goal.loop-init
loop-init g c = record {
  lock = c.requires.lock;
  number = refl;
  shut = refl;
  trace = leads_same (stand_at (known_of c.args.pass) (g.L.Stream.told c.args.link.now)
      c.args.frames.now c.args.session.now);
}

pub loop-preserved : goal.loop-preserved
loop-preserved g c =
    let a : ServerStand =
    stand_at (known_of c.args.pass) (g.L.Stream.told c.args.link.now) c.args.frames.now
    c.args.session.now in
    let b : ServerStand =
    stand_at (known_of c.loop.pass) (g.L.Stream.told c.loop.link) c.loop.frames c.loop.session in
    let b' : ServerStand =
    stand_at (known_of c.step-end.result.1) (g.L.Stream.told c.step-end.new.link)
    c.step-end.new.frames c.step-end.new.session in
    record {
      lock = c.step-end.ensures.lock;
      number = c.step-end.ensures.number ∙ c.loop.invariant.number;
      shut = c.step-end.ensures.shut ∙ c.loop.invariant.shut;
      trace = leads_then a b b' None c.loop.invariant.trace (subst (λ (e : Option SessionEnd). Carries b b' e) c.in_default.is c.step-end.ensures.goes);
    }

pub returns-in-Some-end-clause-goes : goal.returns-in-Some-end-clause-goes
returns-in-Some-end-clause-goes g c =
    let a : ServerStand =
    stand_at (known_of c.args.pass) (g.L.Stream.told c.args.link.now) c.args.frames.now
    c.args.session.now in
    let b : ServerStand =
    stand_at (known_of c.loop.pass) (g.L.Stream.told c.loop.link) c.loop.frames c.loop.session in
    let b' : ServerStand =
    stand_at (known_of c.step-end.result.1) (g.L.Stream.told c.step-end.new.link)
    c.step-end.new.frames c.step-end.new.session in
    leads_then a b b' (Some c.in-Some-end.end) c.loop.invariant.trace (subst (λ (e : Option SessionEnd). Carries b b' e) c.in-Some-end.is c.step-end.ensures.goes)
