use Rattle.std.proofs.Common.{ap, codes}
use Rattle.sporc_play.proofs.Common.{ClientModel}
use Rattle.sporc_play.proofs.ShortTexts.{events_told}
use Rattle.sporc_play.proofs.Reported.{event_told}
use Rattle.sporc_play.proofs.acting.edit_by.Goals as goal

pub returns-clause-line : goal.returns-clause-line
returns-clause-line c =
    let client = c.args.client.now in
    event_told c.push_event.result _ _ c.args.device (codes "edit") c.edit-answer.result _ _ c.push_event.ensures.line c.edit-answer.ensures.fault
    (events_told client.opening client.log c.edit-answer.new.self.log _ c.edit-answer.result c.edit-answer.ensures.ok (ap (λ (x : ClientModel _). x.log) c.edit-answer.ensures.log))
