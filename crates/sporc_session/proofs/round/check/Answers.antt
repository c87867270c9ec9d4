use Rattle.sporc_session.proofs.Rounding.{check_made, check_told}
use Rattle.sporc_session.proofs.Telling.{was_told, worn_read, worn_stopped}
use Rattle.sporc_session.proofs.Wearing.{checked_read}
use Rattle.sporc_session.proofs.round.check.Goals as goal

pub returns-in-Ok-clause-did : goal.returns-in-Ok-clause-did
returns-in-Ok-clause-did g c link words count ready n =
    check_made c.requires.first c.checked.ensures (was_told c.in-Ok.is (check_told c.args.entry.now c.is_flight.result c.plain-answer.ensures c.is_flight.ensures.call c.is_flight.ensures.worn)) ready n link words count

pub returns-in-Err-clause-did : goal.returns-in-Err-clause-did
returns-in-Err-clause-did g c link words count ready n = record { ends = worn_stopped c.in-Err.is (check_told c.args.entry.now c.is_flight.result c.plain-answer.ensures c.is_flight.ensures.call c.is_flight.ensures.worn) }

pub returns-in-Ok-clause-read : goal.returns-in-Ok-clause-read
returns-in-Ok-clause-read g c = checked_read c.args.refusal c.plain-answer.result.1 c.in-Ok.is_flight c.checked.ensures

pub returns-in-Err-clause-read : goal.returns-in-Err-clause-read
returns-in-Err-clause-read g c = worn_read c.in-Err.is (check_told c.args.entry.now c.is_flight.result c.plain-answer.ensures c.is_flight.ensures.call c.is_flight.ensures.worn)
