use Rattle.std.proofs.Common.{refl, ◌+◌, arith}
use Rattle.sporc_session.proofs.Common.{IsLookAt, always}
use Rattle.sporc_session.proofs.Tracing.{and_then, stopped_within}
use Rattle.sporc_session.proofs.Phasing.{look_small, round_begins}
use Rattle.sporc_session.proofs.Telling.{told, was_told, worn_read, worn_stopped}
use Rattle.sporc_session.proofs.phase.look_and_round.Goals as goal

pub round-requires-clause-limit : goal.round-requires-clause-limit
round-requires-clause-limit g c = look_small (was_told c.in-Ok.is (told IsLookAt c.look.result c.plain-answer.ensures c.look.ensures.call c.look.ensures.worn))

pub returns-in-Ok-clause-did : goal.returns-in-Ok-clause-did
returns-in-Ok-clause-did g c n =
    let t = was_told c.in-Ok.is (told IsLookAt c.look.result c.plain-answer.ensures c.look.ensures.call c.look.ensures.worn) in
    and_then (round_begins c.requires.first t refl) (c.round.ensures.did always n)

pub returns-in-Err-clause-did : goal.returns-in-Err-clause-did
returns-in-Err-clause-did g c n = record { ends = stopped_within n (n + 1) (omega arith) (worn_stopped c.in-Err.is (told IsLookAt c.look.result c.plain-answer.ensures c.look.ensures.call c.look.ensures.worn)) }

pub returns-in-Err-clause-read : goal.returns-in-Err-clause-read
returns-in-Err-clause-read g c = worn_read c.in-Err.is (told IsLookAt c.look.result c.plain-answer.ensures c.look.ensures.call c.look.ensures.worn)
