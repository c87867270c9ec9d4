use Rattle.std.proofs.Common.{ap, ◌∙◌, Ok}
use Rattle.sporc_session.proofs.Tracing.{and_then}
use Rattle.sporc_session.proofs.Rounding.{made_entry, made_none, made_stopped}
use Rattle.sporc_session.proofs.Wearing.{worn_at}
use Rattle.sporc_session.proofs.round.give.Goals as goal

pub returns-in-None-clause-did : goal.returns-in-None-clause-did
returns-in-None-clause-did g c ready n = record { ends = made_none c.submit-made.ensures.kept (c.in-Ok.is ∙ ap Ok c.in-None.is) c.submit-made.ensures.submitted }

pub returns-in-Some-clause-did : goal.returns-in-Some-clause-did
returns-in-Some-clause-did g c ready n =
    and_then (made_entry c.submit-made.ensures.kept (c.in-Ok.is ∙ ap Ok c.in-Some.is) c.submit-made.ensures.submitted) (c.offer.ensures.did _ _ ready n)

pub returns-in-Err-clause-did : goal.returns-in-Err-clause-did
returns-in-Err-clause-did g c ready n = record { ends = made_stopped c.submit-made.ensures.kept c.in-Err.is c.submit-made.ensures.submitted }

pub returns-in-Err-clause-read : goal.returns-in-Err-clause-read
returns-in-Err-clause-read g c =
    worn_at c.submit-made.result.1 c.submit-made.result.0 c.in-Err.fault c.in-Err.is c.submit-made.ensures.read
