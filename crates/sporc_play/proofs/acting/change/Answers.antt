use Rattle.std.proofs.Common.{ap, codes}
use Rattle.sporc_play.proofs.Common.{ClientModel}
use Rattle.sporc_play.proofs.ShortTexts.{events_told}
use Rattle.sporc_play.proofs.Reported.{event_told}
use Rattle.sporc_play.proofs.acting.change.Goals as goal

pub returns-in-Some-clause-line : goal.returns-in-Some-clause-line
returns-in-Some-clause-line c =
    let client = c.in-Some.client in
    rw c.in-Some.is
    (event_told c.push_event.result _ _ c.args.device (codes "change") c.change-answer.result _ _ c.push_event.ensures.line c.change-answer.ensures.fault
    (events_told client.opening client.log c.change-answer.new.self.log _ c.change-answer.result c.change-answer.ensures.ok (ap (λ (x : ClientModel _). x.log) c.change-answer.ensures.log)))
