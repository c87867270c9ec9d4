use Rattle.sporc_session.proofs.Common.{known_of}
use Rattle.sporc_session.proofs.Knowing.{call_counts}
use Rattle.sporc_session.proofs.Stating.{edit_told, stated, stated_none}
use Rattle.sporc_session.proofs.Telling.{was_told, worn_counts, worn_is, worn_knows, worn_read}
use Rattle.sporc_session.proofs.Wearing.{edited_read}
use Rattle.sporc_session.proofs.editor.edit_at.Goals as goal

pub returns-in-Ok-clause-did : goal.returns-in-Ok-clause-did
returns-in-Ok-clause-did g c =
    stated (known_of c.args.pass) (known_of c.plain-answer.result.1) c.number-number.result c.args.line c.number-number.ensures.value c.in-Ok.answer c.edited.result c.edited.ensures c.args.seen.front.events c.args.seen.len c.args.delta.now c.requires.last c.requires.stated
    (was_told c.in-Ok.is (edit_told c.args.seen.front.events c.args.delta.now c.edit.result c.plain-answer.ensures c.edit.ensures.call c.edit.ensures.worn))

pub returns-in-Ok-clause-counts : goal.returns-in-Ok-clause-counts
returns-in-Ok-clause-counts g c =
    let call = was_told c.in-Ok.is (edit_told c.args.seen.front.events c.args.delta.now c.edit.result c.plain-answer.ensures c.edit.ensures.call c.edit.ensures.worn) in
    call_counts _ _ call.0 _ call.1

pub returns-in-Ok-clause-read : goal.returns-in-Ok-clause-read
returns-in-Ok-clause-read g c = edited_read c.number-number.result c.args.line c.plain-answer.result.1 c.in-Ok.answer c.edited.ensures

pub returns-in-Err-clause-did : goal.returns-in-Err-clause-did
returns-in-Err-clause-did g c =
    let none = edit_told c.args.seen.front.events c.args.delta.now c.edit.result c.plain-answer.ensures c.edit.ensures.call c.edit.ensures.worn in
    stated_none (known_of c.args.pass) (known_of c.plain-answer.result.1) c.args.line c.args.seen.front.events c.args.delta.now c.in-Err.fault (worn_knows c.in-Err.is none) (worn_is c.in-Err.is none)

pub returns-in-Err-clause-counts : goal.returns-in-Err-clause-counts
returns-in-Err-clause-counts g c = worn_counts c.in-Err.is (edit_told c.args.seen.front.events c.args.delta.now c.edit.result c.plain-answer.ensures c.edit.ensures.call c.edit.ensures.worn)

pub returns-in-Err-clause-read : goal.returns-in-Err-clause-read
returns-in-Err-clause-read g c = worn_read c.in-Err.is (edit_told c.args.seen.front.events c.args.delta.now c.edit.result c.plain-answer.ensures c.edit.ensures.call c.edit.ensures.worn)
