use Rattle.std.proofs.Common.{◌≤◌, subst}
use Rattle.sporc_client.proofs.Common.{client_model, ClientModel, Rise, first_leaf_of, leaves_of}
use Rattle.sporc_client.proofs.Leaves.{opened_before, rises_from_first, rises_since_open}
use Rattle.sporc_client.proofs.client.Client.journal.Goals as goal

pub returns-clause-leaves : goal.returns-clause-leaves
returns-clause-leaves g c =
    let inside = c.self.inside in
    subst (λ (m : ClientModel g.row.D.Denot). Rise m.leaves.next_at_open m.leaves.next (leaves_of m.log)) c.self.view_is
    (rises_since_open (client_model inside.line inside.signer inside.ticket inside.own) c.self.invariant.leaves)

pub returns-clause-drawn : goal.returns-clause-drawn
returns-clause-drawn g c =
    let inside = c.self.inside in
    subst (λ (m : ClientModel g.row.D.Denot). Rise (first_leaf_of m) m.leaves.next (leaves_of m.log)) c.self.view_is
    (rises_from_first (client_model inside.line inside.signer inside.ticket inside.own) c.self.invariant.leaves)

pub returns-clause-since_open : goal.returns-clause-since_open
returns-clause-since_open g c =
    let inside = c.self.inside in
    subst (λ (m : ClientModel g.row.D.Denot). m.leaves.next_at_open ≤ first_leaf_of m) c.self.view_is
    (opened_before (client_model inside.line inside.signer inside.ticket inside.own) c.self.invariant.leaves)
