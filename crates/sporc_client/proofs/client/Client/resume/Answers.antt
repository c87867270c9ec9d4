use Rattle.std.proofs.Common.{None, refl, arith}
use Rattle.sporc_client.proofs.AcceptedHistories.{model_resumed, resumed_invariant}
use Rattle.sporc_client.proofs.Leaves.{order_begun}
use Rattle.sporc_client.proofs.client.Client.resume.Goals as goal

pub invariant_of-result : goal.invariant_of-result
invariant_of-result g c =
    let own = c.in-Ok.ensures in
    resumed_invariant c.args.line c.args.signer None c.in-Ok.own own.good own.within own.pending own.flight own.shown own.journal tt
    (order_begun c.args.signer.leaves.next_at_open c.args.signer.leaves.next (omega (arith, c.next_leaf-next.ensures.value, c.next_leaf-next.ensures.since_open)))

pub returns-in-Ok-clause-value : goal.returns-in-Ok-clause-value
returns-in-Ok-clause-value g c = model_resumed c.args.line c.args.line c.args.signer None c.in-Ok.own c.in-Ok.own refl refl c.in-Ok.ensures.journal
