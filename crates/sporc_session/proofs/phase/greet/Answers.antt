use Rattle.std.proofs.Common.{ap, ◌∙◌}
use Rattle.sporc_shared.specs.declared.membership.Membership.{Membership}
use Rattle.sporc_wire.specs.declared.to_server.ToServer.TheVariants as to_server
use Rattle.sporc_session.proofs.Tracing.{and_then}
use Rattle.sporc_session.proofs.Phasing.{IsWhose, hello_sent}
use Rattle.sporc_session.proofs.Stepping.{ask_did}
use Rattle.sporc_session.proofs.Telling.{told, was_told, worn_read, worn_stopped}
use Rattle.sporc_session.proofs.Wearing.{unsent_worn}
use Rattle.sporc_session.proofs.phase.greet.Goals as goal

pub returns-in-Ok-clause-did : goal.returns-in-Ok-clause-did
returns-in-Ok-clause-did g c words count ready n =
    let t = was_told c.in-Ok.is (told IsWhose c.membership.result c.plain-answer.ensures c.membership.ensures.call c.membership.ensures.worn) in
    let hello = c.hello_of-hello.ensures.value ∙ ap (λ (whose : Membership). to_server.Hello whose.document whose.member) t.is_so in
    and_then (ask_did t.call) (hello_sent hello c.send.ensures.ok c.send.ensures.err)

pub returns-in-Err-clause-did : goal.returns-in-Err-clause-did
returns-in-Err-clause-did g c words count ready n =
    record { ends = worn_stopped c.in-Err.is (told IsWhose c.membership.result c.plain-answer.ensures c.membership.ensures.call c.membership.ensures.worn) }

pub returns-in-Ok-clause-read : goal.returns-in-Ok-clause-read
returns-in-Ok-clause-read g c =
    unsent_worn c.plain-answer.result.1 _ _ _ c.send.result c.send.ensures.err

pub returns-in-Err-clause-read : goal.returns-in-Err-clause-read
returns-in-Err-clause-read g c = worn_read c.in-Err.is (told IsWhose c.membership.result c.plain-answer.ensures c.membership.ensures.call c.membership.ensures.worn)
