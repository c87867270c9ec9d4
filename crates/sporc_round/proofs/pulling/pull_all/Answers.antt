use Rattle.std.proofs.Common.{[], ◌∷◌, ◌++◌, refl, sym, ◌∙◌, arith}
use Rattle.std.proofs.lemmas.Result.{err_from_is_err_and}
use Rattle.sporc_exchange.specs.Wires.{link_at}
use Rattle.sporc_round.proofs.Pulled.{empty_ends, longer, pulled_more, pulled_none, stop_ends}
use Rattle.sporc_round.proofs.pulling.pull_all.Goals as goal

pub loop-alloc-init : goal.loop-alloc-init
loop-alloc-init g c = record {
  pulled = ([], pulled_none c.args.client.now (link_at (g.L.Stream.told c.args.link.now) c.args.inbox.now));
  shut = refl;
}

pub returns-in_err-more-clause-pulls : goal.returns-in_err-more-clause-pulls
returns-in_err-more-clause-pulls g c =
    let p = err_from_is_err_and c.from_residual.result c.from_residual.ensures.1 in
    let before = c.loop-alloc.invariant.pulled in
    rw (p.1, p.2) (stop_ends c.args.client.now c.loop-alloc.client c.gather.new.client (link_at (g.L.Stream.told c.args.link.now) c.args.inbox.now) (link_at (g.L.Stream.told c.loop-alloc.link) c.loop-alloc.inbox)
    (link_at (g.L.Stream.told c.gather.new.link) c.gather.new.inbox) before.0 c.in_err-more.field-0.0 before.1 c.in_err-more.ensures.gathers.err)

pub returns-then-not-more-clause-pulls : goal.returns-then-not-more-clause-pulls
returns-then-not-more-clause-pulls g c =
    let before = c.loop-alloc.invariant.pulled in
    let did = c.in_ok-more.ensures.gathers.ok in
    empty_ends c.args.client.now c.loop-alloc.client c.gather.new.client (link_at (g.L.Stream.told c.args.link.now) c.args.inbox.now) (link_at (g.L.Stream.told c.loop-alloc.link) c.loop-alloc.inbox)
    (link_at (g.L.Stream.told c.gather.new.link) c.gather.new.inbox) before.0 did.0 before.1 did.1 (sym did.2 ∙ grind (arith, c.if-not-more.true))

pub loop-alloc-smaller : goal.loop-alloc-smaller
loop-alloc-smaller g c =
    let did = c.in_ok-more.ensures.gathers.ok in
    omega (
      arith,
      c.in_ok-more.ensures.within,
      longer c.loop-alloc.client c.gather.new.client (link_at (g.L.Stream.told c.loop-alloc.link) c.loop-alloc.inbox) (link_at (g.L.Stream.told c.gather.new.link) c.gather.new.inbox)
          did.0 c.in_ok-more.more did.1 did.2 (grind (arith, c.if-not-more.false)) (sym c.removed.ensures.value ∙ c.if-removed.false),
    )

pub loop-alloc-preserved : goal.loop-alloc-preserved
loop-alloc-preserved g c =
    let before = c.loop-alloc.invariant.pulled in
    let did = c.in_ok-more.ensures.gathers.ok in
    record {
      pulled = (
        before.0 ++ did.0 ∷ [],
        pulled_more c.args.client.now c.loop-alloc.client c.gather.new.client (link_at (g.L.Stream.told c.args.link.now) c.args.inbox.now) (link_at (g.L.Stream.told c.loop-alloc.link) c.loop-alloc.inbox)
            (link_at (g.L.Stream.told c.gather.new.link) c.gather.new.inbox) before.0 did.0 before.1 did.1,
      );
      shut = c.gather.ensures.shut ∙ c.loop-alloc.invariant.shut;
    }
