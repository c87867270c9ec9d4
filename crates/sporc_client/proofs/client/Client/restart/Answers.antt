use Rattle.std.proofs.Common.{◌≡◌, ◌≤◌, List, ℕ, length, take, ap, sym, ◌∙◌, arith}
use Rattle.sporc_client.proofs.Common.{restart_fault, plain_of, ClientModel, state_of, PlainClient, log_of_entries}
use Rattle.sporc_client.proofs.Checked.{restart_fits}
use Rattle.sporc_client.proofs.AcceptedHistories.{model_resumed, order_anew, resumed_invariant}
use Rattle.sporc_client.proofs.Events.{state_is}
use Rattle.sporc_client.proofs.client.Client.restart.Goals as goal

pub invariant_of-self : goal.invariant_of-self
invariant_of-self g c =
    let own = c.in-Ok.ensures in
    rw (c.replace.ensures.after, c.replace-in-Ok.ensures.after) (resumed_invariant c.in_ok-line.line c.self.inside.signer c.self.inside.ticket c.in-Ok.own own.good own.within own.pending own.flight own.shown own.journal c.self.invariant.unspent
    (order_anew c.self.inside.signer.leaves.next_at_open c.self.inside.signer.leaves.next c.self.inside.ticket _ c.self.invariant.leaves))

pub returns-in-Ok-clause-ok : goal.returns-in-Ok-clause-ok
returns-in-Ok-clause-ok g c =
    let inside = c.self.inside in
    let line = c.in_ok-line.ensures in
    let entries : c.in_ok-line.line.entries ≡ take c.args.k (state_of c.args.self.now).entries = line.entries ∙ ap (λ (p : PlainClient). take c.args.k p.entries) (sym (state_is c.self.invariant c.self.view_is)) in
    rw (c.replace.ensures.after, c.replace-in-Ok.ensures.after) (model_resumed inside.line c.in_ok-line.line inside.signer inside.ticket inside.own c.in-Ok.own line.genesis line.kit c.in-Ok.ensures.journal
    ∙ ap (λ (m : ClientModel g.row.D.Denot). record m { log = log_of_entries c.in_ok-line.line.entries }) c.self.view_is
    ∙ ap (λ (es : List (List ℕ)). record c.args.self.now { log = log_of_entries es }) entries)

pub returns-in-Ok-clause-fault : goal.returns-in-Ok-clause-fault
returns-in-Ok-clause-fault g c =
    let inside = c.self.inside in
    let within : c.args.k ≤ length inside.line.entries = omega (arith, c.if-k-len.false, c.len-len.ensures.value) in
    ap (λ p. restart_fault p c.args.k) (state_is c.self.invariant c.self.view_is) ∙ restart_fits (plain_of inside.signer.key inside.line inside.own) c.args.k within
