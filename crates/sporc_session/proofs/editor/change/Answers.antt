use Rattle.sporc_session.proofs.Common.{Changes, known_of}
use Rattle.sporc_session.proofs.Knowing.{call_counts}
use Rattle.sporc_session.proofs.Stating.{asked_worn, change_told, changed}
use Rattle.sporc_session.proofs.Telling.{was_told, worn_counts, worn_is, worn_knows, worn_read}
use Rattle.sporc_session.proofs.Wearing.{edited_read}
use Rattle.sporc_session.proofs.editor.change.Goals as goal

pub returns-in-Ok-clause-did : goal.returns-in-Ok-clause-did
returns-in-Ok-clause-did g c =
    changed (known_of c.args.pass) (known_of c.plain-answer.result.1) c.number-number.result c.args.line c.number-number.ensures.value c.in-Ok.answer c.edited.result c.edited.ensures c.args.change
    (was_told c.in-Ok.is (change_told c.args.change c.change.result c.plain-answer.ensures c.change.ensures.call c.change.ensures.worn))

pub returns-in-Ok-clause-counts : goal.returns-in-Ok-clause-counts
returns-in-Ok-clause-counts g c =
    let call = was_told c.in-Ok.is (change_told c.args.change c.change.result c.plain-answer.ensures c.change.ensures.call c.change.ensures.worn) in
    call_counts _ _ call.0 _ call.1

pub returns-in-Ok-clause-read : goal.returns-in-Ok-clause-read
returns-in-Ok-clause-read g c = edited_read c.number-number.result c.args.line c.plain-answer.result.1 c.in-Ok.answer c.edited.ensures

pub returns-in-Err-clause-did : goal.returns-in-Err-clause-did
returns-in-Err-clause-did g c =
    let none = change_told c.args.change c.change.result c.plain-answer.ensures c.change.ensures.call c.change.ensures.worn in
    asked_worn (known_of c.args.pass) (known_of c.plain-answer.result.1) c.args.line (Changes c.args.change) c.in-Err.fault (worn_knows c.in-Err.is none) (worn_is c.in-Err.is none)

pub returns-in-Err-clause-counts : goal.returns-in-Err-clause-counts
returns-in-Err-clause-counts g c = worn_counts c.in-Err.is (change_told c.args.change c.change.result c.plain-answer.ensures c.change.ensures.call c.change.ensures.worn)

pub returns-in-Err-clause-read : goal.returns-in-Err-clause-read
returns-in-Err-clause-read g c = worn_read c.in-Err.is (change_told c.args.change c.change.result c.plain-answer.ensures c.change.ensures.call c.change.ensures.worn)
