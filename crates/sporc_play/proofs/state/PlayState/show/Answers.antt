use Rattle.sporc_play.proofs.Common.{show_line}
use Rattle.sporc_play.proofs.Becoming.{ok_then}
use Rattle.sporc_play.proofs.Kept.{line_there, none_there}
use Rattle.sporc_play.proofs.state.PlayState.show.Goals as goal

pub returns-in-Some : goal.returns-in-Some
returns-in-Some c =
    let state = c.args.self.now in
    ok_then c.push_show.result _ _ c.push_show.ensures.ok
    (λ is script scene stands. line_there script scene state c.args.device c.in-Some.client.now show_line _ _ stands c.in-Some.ensures.value is)

pub returns-in-None : goal.returns-in-None
returns-in-None c =
    let state = c.args.self.now in
    ok_then c.push_not_open.result _ _ c.push_not_open.ensures.ok
    (λ is script scene stands. none_there script scene state c.args.device (show_line c.args.device) _ _ stands c.in-None.ensures.value is)
