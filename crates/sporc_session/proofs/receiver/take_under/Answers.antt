use Rattle.std.proofs.Common.{◌+◌}
use Rattle.sporc_session.proofs.Common.{known_of}
use Rattle.sporc_session.proofs.Knowing.{call_counts}
use Rattle.sporc_session.proofs.Taking.{accept_told, took_none, took_one}
use Rattle.sporc_session.proofs.Telling.{was_told, worn_counts, worn_is, worn_knows, worn_read}
use Rattle.sporc_session.proofs.Wearing.{taken_read}
use Rattle.sporc_session.proofs.receiver.take_under.Goals as goal

pub returns-after-is_ok-clause-took : goal.returns-after-is_ok-clause-took
returns-after-is_ok-clause-took g c =
    took_one (known_of c.args.pass) (known_of c.plain-answer.result.1) c.args.at c.args.entry c.in-Ok.answer c.taken-took.result c.requires.first c.taken-took.ensures
    (was_told c.in-Ok.is (accept_told (c.args.at + 1) c.args.entry c.accept_under.result c.plain-answer.ensures c.accept_under.ensures.call c.accept_under.ensures.worn))

pub returns-after-is_ok-clause-counts : goal.returns-after-is_ok-clause-counts
returns-after-is_ok-clause-counts g c =
    let call = was_told c.in-Ok.is (accept_told (c.args.at + 1) c.args.entry c.accept_under.result c.plain-answer.ensures c.accept_under.ensures.call c.accept_under.ensures.worn) in
    call_counts _ _ call.0 _ call.1

pub returns-after-is_ok-clause-read : goal.returns-after-is_ok-clause-read
returns-after-is_ok-clause-read g c = taken_read (c.args.at + 1) c.plain-answer.result.1 c.in-Ok.answer c.taken-took.ensures

pub returns-in-Err-clause-took : goal.returns-in-Err-clause-took
returns-in-Err-clause-took g c =
    let none = accept_told (c.args.at + 1) c.args.entry c.accept_under.result c.plain-answer.ensures c.accept_under.ensures.call c.accept_under.ensures.worn in
    took_none (known_of c.args.pass) (known_of c.plain-answer.result.1) c.args.at c.args.entry c.in-Err.fault (worn_knows c.in-Err.is none) (worn_is c.in-Err.is none)

pub returns-in-Err-clause-counts : goal.returns-in-Err-clause-counts
returns-in-Err-clause-counts g c =
    worn_counts c.in-Err.is (accept_told (c.args.at + 1) c.args.entry c.accept_under.result c.plain-answer.ensures c.accept_under.ensures.call c.accept_under.ensures.worn)

pub returns-in-Err-clause-read : goal.returns-in-Err-clause-read
returns-in-Err-clause-read g c =
    worn_read c.in-Err.is (accept_told (c.args.at + 1) c.args.entry c.accept_under.result c.plain-answer.ensures c.accept_under.ensures.call c.accept_under.ensures.worn)
