use Rattle.std.proofs.Common.{arith}
use Rattle.sporc_client.proofs.AcceptedHistories.{opened_invariant}
use Rattle.sporc_client.proofs.client.Client.open.Goals as goal

pub invariant_of-result : goal.invariant_of-result
invariant_of-result g c =
    let known = c.in-Ok.ensures in
    opened_invariant c.in-Ok.line c.args.signer c.in-Ok.own known.good known.empty known.pending known.flight known.shown known.journal
    (omega (arith, c.next_leaf-next.ensures.value, c.next_leaf-next.ensures.since_open))
