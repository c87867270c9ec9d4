use Rattle.sporc_play.proofs.Submitted.{submits, told_made, Submits}
use Rattle.sporc_play.proofs.acting.submit_client.Goals as goal
use Rattle.sporc_play.proofs.Becoming.{ok_both, ok_then}
use Rattle.std.proofs.Common.{string_bytes, sym, ap, ◌∙◌, ◌++◌, Result, subst}
use Rattle.sporc_play.proofs.Common.{Submitted, SubmitFault, submit_line, IsSubmitted}

pub returns : goal.returns
returns c =
    let r = c.tell_submission.result in
    let did = ok_both r _ _ (Submits c.args.random.now c.args.client.now c.submit-answer.new.self c.submit-answer.result) c.tell_submission.ensures.named c.tell_submission.ensures.no_disk
    (submits _ c.args.random.now c.args.client.now c.submit-answer.new.self c.submit-answer.result c.requires.client c.submit-answer.ensures.value c.submit-answer.ensures.log c.submit-answer.ensures.undrawn c.submit-answer.ensures.drawn) in
    record {
      line = ok_both r _ _ _ c.tell_submission.ensures.line did
          (λ line done. line ∙ ap (λ (a : Result Submitted SubmitFault). string_bytes c.args.out.now ++ submit_line c.args.device c.args.next c.args.last a) (sym done.answer));
      made = told_made _ r c.submit-answer.result _ c.tell_submission.ensures.made (ok_then r _ _ did (λ done. done.answer));
      client = ok_then r _ _ did (λ done. subst (λ (a : Result Submitted SubmitFault). IsSubmitted c.args.client.now a c.submit-answer.new.self) (sym done.answer) done.client);
    }
