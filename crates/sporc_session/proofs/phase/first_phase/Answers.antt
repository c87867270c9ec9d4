use Rattle.std.proofs.Common.{arith}
use Rattle.sporc_session.proofs.Common.{always}
use Rattle.sporc_session.proofs.Tracing.{stopped_within, was_done, was_stopped}
use Rattle.sporc_session.proofs.Phasing.{first_then}
use Rattle.sporc_session.proofs.Wearing.{worn_at}
use Rattle.sporc_session.proofs.phase.first_phase.Goals as goal

pub returns-in-Ok-clause-phase : goal.returns-in-Ok-clause-phase
returns-in-Ok-clause-phase g c = first_then (was_done c.in-Ok.is (c.greet-greeted.ensures.did _ _ always 0)) c.rounds_of.ensures.did

pub returns-in-Err-clause-phase : goal.returns-in-Err-clause-phase
returns-in-Err-clause-phase g c = stopped_within 0 c.args.rounds (omega arith) (was_stopped c.in-Err.is (c.greet-greeted.ensures.did _ _ always 0))

pub returns-in-Err-clause-read : goal.returns-in-Err-clause-read
returns-in-Err-clause-read g c =
    worn_at c.greet-greeted.result.1 c.greet-greeted.result.0 c.in-Err.fault c.in-Err.is c.greet-greeted.ensures.read
