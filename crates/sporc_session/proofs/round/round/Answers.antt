use Rattle.sporc_session.proofs.Tracing.{and_then}
use Rattle.sporc_session.proofs.Rounding.{pull_did, pull_stopped}
use Rattle.sporc_session.proofs.Wearing.{worn_at}
use Rattle.sporc_session.proofs.round.round.Goals as goal

pub returns-in-Ok-clause-did : goal.returns-in-Ok-clause-did
returns-in-Ok-clause-did g c ready n = and_then (pull_did c.in-Ok.is c.gather-gathered.ensures.gathered) (c.give.ensures.did ready n)

pub returns-in-Err-clause-did : goal.returns-in-Err-clause-did
returns-in-Err-clause-did g c ready n = record { ends = pull_stopped c.in-Err.is c.gather-gathered.ensures.gathered }

pub returns-in-Err-clause-read : goal.returns-in-Err-clause-read
returns-in-Err-clause-read g c =
    worn_at c.gather-gathered.result.1 c.gather-gathered.result.0 c.in-Err.fault c.in-Err.is c.gather-gathered.ensures.read
