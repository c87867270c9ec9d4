use Rattle.std.proofs.Common.{◌++◌, string_bytes, ap, sym, ◌∙◌}
use Rattle.sporc_play.proofs.Common.{Result, HintFault, Keys, join_line, joining_by}
use Rattle.sporc_play.proofs.joining.join_by.Goals as goal
use Rattle.sporc_play.proofs.Becoming.{ok_both}

pub returns-in-Err-clause-line : goal.returns-in-Err-clause-line
returns-in-Err-clause-line c =
    ok_both c.push_no_hints.result _ _ _ c.push_no_hints.ensures.line c.push_no_hints.ensures.named
    (λ line named. λ s is same. line ∙ ap (λ (hints : Result Keys HintFault). string_bytes c.args.out.now ++ join_line c.args.seat.now.device (joining_by s hints)) (sym (c.in-Err.ensures s is named)))
