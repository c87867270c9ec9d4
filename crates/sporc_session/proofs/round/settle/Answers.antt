use Rattle.sporc_session.proofs.Tracing.{and_then, was_done, was_stopped}
use Rattle.sporc_session.proofs.Wearing.{worn_at}
use Rattle.sporc_session.proofs.round.settle.Goals as goal

pub returns-in-Ok-clause-did : goal.returns-in-Ok-clause-did
returns-in-Ok-clause-did g c words count ready n =
    and_then (was_done c.in-Ok.is (c.drain-drained.ensures.did c.args.entry.now c.args.refusal words count ready n)) (c.check.ensures.did _ words count ready n)

pub returns-in-Err-clause-did : goal.returns-in-Err-clause-did
returns-in-Err-clause-did g c words count ready n =
    record { ends = was_stopped c.in-Err.is (c.drain-drained.ensures.did c.args.entry.now c.args.refusal words count ready n) }

pub returns-in-Err-clause-read : goal.returns-in-Err-clause-read
returns-in-Err-clause-read g c =
    worn_at c.drain-drained.result.1 c.drain-drained.result.0 c.in-Err.fault c.in-Err.is c.drain-drained.ensures.read
