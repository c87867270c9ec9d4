use Rattle.std.proofs.Common.{◌++◌, List, ap, ◌∙◌, string_bytes}
use Rattle.sporc_play.proofs.Common.{journal_of, Event, journal_lines}
use Rattle.sporc_play.proofs.Becoming.{ok_then}
use Rattle.sporc_play.proofs.Kept.{journal_there, none_there}
use Rattle.sporc_play.proofs.state.PlayState.journal.Goals as goal

pub returns-in-Some : goal.returns-in-Some
returns-in-Some c =
    let state = c.args.self.now in
    let journal = ap (λ (events : List Event). string_bytes c.args.out.now ++ journal_lines events) c.journal.ensures.value in
    ok_then c.push_journal.result _ _ c.push_journal.ensures.ok
    (λ is script scene stands. journal_there script scene state c.args.device c.in-Some.client.now _ _ stands c.in-Some.ensures.value (is ∙ journal))

pub returns-in-None : goal.returns-in-None
returns-in-None c =
    let state = c.args.self.now in
    ok_then c.push_not_open.result _ _ c.push_not_open.ensures.ok
    (λ is script scene stands.
    none_there script scene state c.args.device (λ client. journal_lines (journal_of (scene.logs c.args.device))) _ _ stands c.in-None.ensures.value is)
