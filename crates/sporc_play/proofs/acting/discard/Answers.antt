use Rattle.std.proofs.Common.{ap, codes}
use Rattle.sporc_play.proofs.Common.{ClientModel}
use Rattle.sporc_play.proofs.ShortTexts.{events_told}
use Rattle.sporc_play.proofs.Reported.{event_told}
use Rattle.sporc_play.proofs.acting.discard.Goals as goal

pub returns-in-Some-clause-line : goal.returns-in-Some-clause-line
returns-in-Some-clause-line c =
    let client = c.in-Some.client in
    rw c.in-Some.is
    (event_told c.push_event.result _ _ c.args.device (codes "discard") c.discard-answer.result _ _ c.push_event.ensures.line c.discard-answer.ensures.fault
    (events_told client.opening client.log c.discard-answer.new.self.log _ c.discard-answer.result c.discard-answer.ensures.ok (ap (λ (x : ClientModel _). x.log) c.discard-answer.ensures.log)))
