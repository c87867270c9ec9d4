use Rattle.std.proofs.Common.{List, Err, subst, sym, arith}
use Rattle.sporc_docs.proofs.Common.{OrderModel, AreKept, AreServed, IsServedDocument}
use Rattle.sporc_serve.specs.declared.fault.ServeFault.TheVariants as faults
use Rattle.sporc_docs.proofs.Opening.{both_length}
use Rattle.sporc_docs.proofs.Served.{serves_none, serves_before, apart_kept}
use Rattle.sporc_docs.proofs.server.serve_docs_kept.Goals as goal

pub returns-in_default-clause-served : goal.returns-in_default-clause-served
returns-in_default-clause-served g c =
    serves_none (g.N.Links.told c.args.net.now)
    (g.N.Links.told c.listen.new.self) c.args.sessions (Err faults.ListenFault)
    c.args.kept.docs c.listen.ensures.coming c.listen.ensures.returned c.in_default.ensures.count.failed

pub of-requires-clause-apart : goal.of-requires-clause-apart
of-requires-clause-apart g c =
    let served = c.serve_orders-answer.ensures.served in
    apart_kept served.0 c.into_orders-orders.result.items c.serve_orders-answer.new.orders.items served.1.served c.into_orders-orders.ensures.apart

pub of-requires-clause-limit : goal.of-requires-clause-limit
of-requires-clause-limit g c =
    let served = c.serve_orders-answer.ensures.served in
    let same = both_length (IsServedDocument served.0) c.into_orders-orders.result.items c.serve_orders-answer.new.orders.items served.1.served in
    let few = c.into_orders-orders.ensures.within in
    omega (arith, same, few)

pub returns-clause-served : goal.returns-clause-served
returns-clause-served g c =
    let old = g.N.Links.told c.args.net.now in
    let mid = g.N.Links.told c.listen.new.self in
    let new = g.N.Links.told c.serve_orders-answer.new.net in
    subst (λ (z : List OrderModel × List OrderModel). AreServed z.0 z.1 old new c.args.sessions c.serve_orders-answer.result)
    (λ i. (c.into_orders-orders.ensures.value i, sym c.of.ensures.value i))
    (serves_before old mid new c.args.sessions
    c.serve_orders-answer.result c.into_orders-orders.result.items c.serve_orders-answer.new.orders.items c.serve_orders-answer.ensures.served c.listen.ensures.coming
    c.listen.ensures.returned c.listen.ensures.count.kept)

pub serve_orders-answer-requires-clause-tails : goal.serve_orders-answer-requires-clause-tails
serve_orders-answer-requires-clause-tails g c κs within =
    subst (λ (os : List OrderModel). AreKept g.T.Tail.keeps c.args.kept.tails.items os) (sym c.into_orders-orders.ensures.value) c.requires.tails

pub returns-clause-tails : goal.returns-clause-tails
returns-clause-tails g c =
    subst (λ (os : List OrderModel). AreKept g.T.Tail.keeps c.serve_orders-answer.new.tails.items os) (sym c.of.ensures.value) c.serve_orders-answer.ensures.tails
