use Rattle.std.proofs.Common.{◌≡◌, ◌≢◌, Err}
use Rattle.sporc_session.proofs.Common.{Result, Pass, known_of, watermark_of, SubmitFault, Submitted, Item}
use Rattle.sporc_client.specs.declared.fault.SubmitFault.TheVariants as submits
use Rattle.sporc_session.proofs.Knowing.{call_counts}
use Rattle.sporc_session.proofs.Submitting.{not_drawn, submit_told, submitted_none, submitted_one, submitted_short}
use Rattle.sporc_session.proofs.Telling.{replied, was_told, worn_counts, worn_is, worn_knows, worn_read}
use Rattle.sporc_session.proofs.Wearing.{made_read, undrawn_unworn}
use Rattle.sporc_session.proofs.receiver.submit.Goals as goal

pub returns-in-Ok-answer-clause-submitted : goal.returns-in-Ok-answer-clause-submitted
returns-in-Ok-answer-clause-submitted g c =
    submitted_one (known_of c.args.pass) (known_of c.plain-answer.result.1) c.in-Ok-answer.answer c.made.result _ _ _ _ c.in-Ok.random c.requires.first c.made.ensures c.in-Ok.ensures.ok
    (was_told c.in-Ok-answer.is (submit_told c.in-Ok.random c.submit.result c.plain-answer.ensures c.submit.ensures.call c.submit.ensures.worn))

pub returns-in-Ok-answer-clause-within : goal.returns-in-Ok-answer-clause-within
returns-in-Ok-answer-clause-within g c =
    submitted_short (known_of c.args.pass) (known_of c.plain-answer.result.1) c.in-Ok.random c.in-Ok-answer.answer c.made.result c.made.ensures
    (was_told c.in-Ok-answer.is (submit_told c.in-Ok.random c.submit.result c.plain-answer.ensures c.submit.ensures.call c.submit.ensures.worn))

pub returns-in-Ok-answer-clause-counts : goal.returns-in-Ok-answer-clause-counts
returns-in-Ok-answer-clause-counts g c =
    let call = was_told c.in-Ok-answer.is (submit_told c.in-Ok.random c.submit.result c.plain-answer.ensures c.submit.ensures.call c.submit.ensures.worn) in
    call_counts _ _ call.0 _ call.1

pub returns-in-Ok-answer-clause-read : goal.returns-in-Ok-answer-clause-read
returns-in-Ok-answer-clause-read g c =
    let Disk : Pass Item → Result Submitted SubmitFault → Type 0 = λ p answer. answer ≡ Err submits.LeafFault → watermark_of p ≢ 0 in
    made_read c.plain-answer.result.1 c.in-Ok-answer.answer c.made.ensures (was_told c.in-Ok-answer.is (replied Disk c.submit.result c.plain-answer.ensures c.submit.ensures.disk c.submit.ensures.worn))

pub returns-in-Err-answer-clause-submitted : goal.returns-in-Err-answer-clause-submitted
returns-in-Err-answer-clause-submitted g c =
    let none = submit_told c.in-Ok.random c.submit.result c.plain-answer.ensures c.submit.ensures.call c.submit.ensures.worn in
    submitted_none (known_of c.args.pass) (known_of c.plain-answer.result.1) _ _ _ _ c.in-Ok.random c.in-Err-answer.fault c.in-Ok.ensures.ok (worn_knows c.in-Err-answer.is none) (worn_is c.in-Err-answer.is none)

pub returns-in-Err-answer-clause-counts : goal.returns-in-Err-answer-clause-counts
returns-in-Err-answer-clause-counts g c = worn_counts c.in-Err-answer.is (submit_told c.in-Ok.random c.submit.result c.plain-answer.ensures c.submit.ensures.call c.submit.ensures.worn)

pub returns-in-Err-answer-clause-read : goal.returns-in-Err-answer-clause-read
returns-in-Err-answer-clause-read g c = worn_read c.in-Err-answer.is (submit_told c.in-Ok.random c.submit.result c.plain-answer.ensures c.submit.ensures.call c.submit.ensures.worn)

pub returns-in-Err-clause-submitted : goal.returns-in-Err-clause-submitted
returns-in-Err-clause-submitted g c =
    not_drawn (known_of c.args.pass) (g.C.Chance.told c.args.chance.now).given (g.C.Chance.told c.draw.new.chance).given (g.C.Chance.told c.args.chance.now).faults (g.C.Chance.told c.draw.new.chance).faults c.in-Err.fault c.in-Err.ensures.err
    c.in-Err.ensures.count.failed

pub returns-in-Err-clause-read : goal.returns-in-Err-clause-read
returns-in-Err-clause-read g c =
    undrawn_unworn c.args.pass c.in-Err.fault c.in-Err.ensures.err.0
