use Rattle.std.proofs.Common.{min, ap, ◌∙◌, subst}
use Rattle.sporc_session.proofs.Common.{IfErr, IfOk, Result, base_len, insertion, known_of, Seen, SessionFault, IsAtFront, IsWornFault, asked_by}
use Rattle.sporc_script.specs.declared.editor_line.EditorCommand.TheVariants as commands
use Rattle.sporc_session.proofs.Stating.{asked_edit, asked_worn, inserted_len}
use Rattle.sporc_session.proofs.Wearing.{worn_at}
use Rattle.sporc_session.proofs.editor.insert.Goals as goal

pub edit_at-requires-clause-stated : goal.edit_at-requires-clause-stated
edit_at-requires-clause-stated g c = ap base_len c.in-Ok-inserted.ensures.ok ∙ inserted_len c.in-Ok.seen.len c.args.asked.now.at c.args.asked.now.text

pub returns-clause-did : goal.returns-clause-did
returns-clause-did g c =
    asked_edit (known_of c.args.pass) (known_of c.see-found.result.1) c.see-found.ensures.knows c.args.line c.in-Ok.seen.front.events c.in-Ok.seen.len (λ len. insertion len (min c.args.asked.now.at len) c.args.asked.now.text) c.in-Ok-inserted.delta
    (subst (λ (r : Result Seen SessionFault). IfOk r (λ seen. IsAtFront (known_of c.see-found.result.1) seen.front.events seen.len)) c.in-Ok.is c.see-found.ensures.ok) c.in-Ok-inserted.ensures.ok (known_of c.edit_at.result.1) c.edit_at.result.0 c.edit_at.ensures.did

pub returns-in-Err-clause-did : goal.returns-in-Err-clause-did
returns-in-Err-clause-did g c = asked_worn (known_of c.args.pass) (known_of c.see-found.result.1) c.args.line (asked_by (commands.Insert c.args.asked.now)) c.in-Err.fault c.see-found.ensures.knows (subst (λ (r : Result Seen SessionFault). IfErr r IsWornFault) c.in-Err.is c.see-found.ensures.err)

pub returns-in-Err-clause-read : goal.returns-in-Err-clause-read
returns-in-Err-clause-read g c =
    worn_at c.see-found.result.1 c.see-found.result.0 c.in-Err.fault c.in-Err.is c.see-found.ensures.read
