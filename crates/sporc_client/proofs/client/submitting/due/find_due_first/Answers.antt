use Rattle.std.proofs.Common.{rules, ◌≡◌, Err, Ok, Option, ap}
use Rattle.sporc_client.proofs.Common.{Sign, SubmitFault, or_due, step_of}
use Rattle.sporc_client.specs.declared.client.submitting.due.Due.TheVariants as steps
use Rattle.sporc_client.specs.declared.pending.Pending.TheVariants.{Edit}
use Rattle.sporc_client.proofs.Submitting.{goes_on, refuses}
use Rattle.sporc_client.proofs.client.submitting.due.find_due_first.Goals as goal

pub returns-in_err-check_submission : goal.returns-in_err-check_submission
returns-in_err-check_submission c =
    let is : c.from_residual.result ≡ Err c.in_err-check_submission.field-0.0 = search rules in
    record { value = rw is (refuses _ _ _ c.in_err-check_submission.ensures.fault) }

pub returns-in_err-check_length-in-Edit : goal.returns-in_err-check_length-in-Edit
returns-in_err-check_length-in-Edit c =
    let fault = c.in_err-check_length-in-Edit.field-0.0 in
    let is : c.from_residual-in_err-check_length-in-Edit.result ≡ Err fault = search rules in
    record { value = rw is (goes_on c.args.line.now c.args.own.now.shown (Err fault) c.in_ok-check_submission.ensures.fault c.in-Edit.is (refuses fault _ (Sign (Edit c.in-Edit.delta)) c.in_err-check_length-in-Edit.ensures.fault)) }

pub returns-in_ok-check_length-in-Edit : goal.returns-in_ok-check_length-in-Edit
returns-in_ok-check_length-in-Edit c = record {
  value =
      goes_on c.args.line.now c.args.own.now.shown (Ok steps.Sign) c.in_ok-check_submission.ensures.fault c.in-Edit.is
      (ap (λ (o : Option SubmitFault). step_of (or_due o (Sign (Edit c.in-Edit.delta)))) c.in_ok-check_length-in-Edit.ensures.fault);
}

pub returns-in-Change : goal.returns-in-Change
returns-in-Change c = record { value = goes_on c.args.line.now c.args.own.now.shown c.find_due_change.result c.in_ok-check_submission.ensures.fault c.in-Change.is c.find_due_change.ensures.value }
