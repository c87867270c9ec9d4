use Rattle.std.proofs.Common.{◌≡◌, true, false, ap, sym, ◌∙◌}
use Rattle.sporc_script.proofs.Common.{may_follow}
use Rattle.sporc_script.proofs.PlayLines.{command_missing, command_spelled, one_command}
use Rattle.sporc_script.proofs.play_script.next_command.Goals as goal

pub returns-in_default : goal.returns-in_default
returns-in_default c = λ other spelled follows. command_missing c.args.line.now (rw c.in_default.is at c.in_ok-command.ensures.ok) other spelled

pub returns-then-may_follow : goal.returns-then-may_follow
returns-then-may_follow c =
    (command_spelled c.args.line.now c.in-Some.command (rw c.in-Some.is at c.in_ok-command.ensures.ok), sym c.may_follow.ensures.value ∙ c.if-may_follow.true)

pub returns : goal.returns
returns c = λ other spelled follows.
    let own = command_spelled c.args.line.now c.in-Some.command (rw c.in-Some.is at c.in_ok-command.ensures.ok) in
    let same = one_command c.args.line.now other c.in-Some.command spelled own in
    let no : true ≡ false = sym follows ∙ ap (may_follow c.args.declared.now) same ∙ sym c.may_follow.ensures.value ∙ c.if-may_follow.false in cc
