use Rattle.std.proofs.Common.{◌≢◌, Err, Ok, ap, arith, ◌∙◌}
use Rattle.sporc_client.proofs.Common.{Memory, err_from_is_err_and, state_of}
use Rattle.sporc_client.specs.declared.client.submitting.due.Due.TheVariants as steps
use Rattle.sporc_client.proofs.Submitting.{answers, drop_answers}
use Rattle.sporc_client.proofs.Leaves.{client_may}
use Rattle.sporc_client.proofs.client.Client.submit.Goals as goal

pub returns-in_err-find_due-clause-value : goal.returns-in_err-find_due-clause-value
returns-in_err-find_due-clause-value g c =
    let fault = c.in_err-find_due.field-0.0 in
    let p = err_from_is_err_and c.from_residual.result c.from_residual.ensures.1 in
    rw (p.1, p.2) (λ (other : fault ≢ Memory). answers (state_of c.args.self.now) c.args.random.now _ (Err fault) (c.in_err-find_due.ensures other))

pub returns-in-Waiting-clause-value : goal.returns-in-Waiting-clause-value
returns-in-Waiting-clause-value g c = answers (state_of c.args.self.now) c.args.random.now _ (Ok steps.Waiting) (c.in_ok-find_due.ensures ∙ ap Ok c.in-Waiting.is)

pub returns-in-Nothing-clause-value : goal.returns-in-Nothing-clause-value
returns-in-Nothing-clause-value g c = answers (state_of c.args.self.now) c.args.random.now _ (Ok steps.Nothing) (c.in_ok-find_due.ensures ∙ ap Ok c.in-Nothing.is)

pub returns-in-Drop-clause-value : goal.returns-in-Drop-clause-value
returns-in-Drop-clause-value g c =
    drop_answers (answers (state_of c.args.self.now) c.args.random.now _ (Ok (steps.Drop c.in-Drop.fault)) (c.in_ok-find_due.ensures ∙ ap Ok c.in-Drop.is)) c.drop_first.result c.drop_first.ensures.ok c.drop_first.ensures.err

pub returns-in_err-find_due-clause-may : goal.returns-in_err-find_due-clause-may
returns-in_err-find_due-clause-may g c = client_may c.self.invariant c.self.view_is _ c.next_leaf-next.ensures.all (omega (arith, c.next_leaf-next.ensures.value, c.next_leaf-next.ensures.within))

pub returns-in-Waiting-clause-may : goal.returns-in-Waiting-clause-may
returns-in-Waiting-clause-may g c = client_may c.self.invariant c.self.view_is _ c.next_leaf-next.ensures.all (omega (arith, c.next_leaf-next.ensures.value, c.next_leaf-next.ensures.within))

pub returns-in-Nothing-clause-may : goal.returns-in-Nothing-clause-may
returns-in-Nothing-clause-may g c = client_may c.self.invariant c.self.view_is _ c.next_leaf-next.ensures.all (omega (arith, c.next_leaf-next.ensures.value, c.next_leaf-next.ensures.within))

pub returns-in-Drop-clause-may : goal.returns-in-Drop-clause-may
returns-in-Drop-clause-may g c = client_may c.self.invariant c.self.view_is _ c.next_leaf-next.ensures.all (omega (arith, c.next_leaf-next.ensures.value, c.next_leaf-next.ensures.within))

pub returns-in-Sign-clause-may : goal.returns-in-Sign-clause-may
returns-in-Sign-clause-may g c = client_may c.self.invariant c.self.view_is _ c.next_leaf-next.ensures.all (omega (arith, c.next_leaf-next.ensures.value, c.next_leaf-next.ensures.within))
