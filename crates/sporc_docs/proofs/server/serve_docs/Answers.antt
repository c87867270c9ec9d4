use Rattle.std.proofs.Common.{Result, ap, arith, subst, sym, ◌∙◌}
use Rattle.sporc_docs.proofs.Common.{AreServed, ServeFault, as_served}
use Rattle.sporc_docs.proofs.Opening.{none_kept}
use Rattle.sporc_docs.proofs.Served.{listen_told}
use Rattle.sporc_docs.proofs.server.serve_docs.Goals as goal

pub returns-in_default-clause-served : goal.returns-in_default-clause-served
returns-in_default-clause-served g c = c.unserved.ensures.served c.args.docs c.args.sessions

pub serve_docs_kept-kept-requires-clause-tails : goal.serve_docs_kept-kept-requires-clause-tails
serve_docs_kept-kept-requires-clause-tails g c κs within =
    let made = c.in-Ok.ensures.len in
    let count = c.len.ensures.value in
    let size = c.in-Ok.tails.ok.0 in
    none_kept c.in-Ok.tails.items c.args.docs (omega (arith, made, count, size))

pub returns-clause-served : goal.returns-clause-served
returns-clause-served g c =
    subst (λ (r : Result (Unit {0}) ServeFault). AreServed c.args.docs c.serve_docs_kept-kept.result.0.docs (g.N.Links.told c.args.net.now)
    (g.N.Links.told c.serve_docs_kept-kept.new.net) c.args.sessions r) (sym c.told.ensures) c.serve_docs_kept-kept.ensures.served

pub returns-clause-asked : goal.returns-clause-asked
returns-clause-asked g c other = c.serve_docs_kept-kept.ensures.asked (λ is. other (listen_told c.told.result (c.told.ensures ∙ is)))

pub returns-clause-none_unkept : goal.returns-clause-none_unkept
returns-clause-none_unkept g c is = c.serve_docs_kept-kept.ensures.unkept (sym c.told.ensures ∙ ap as_served is)
