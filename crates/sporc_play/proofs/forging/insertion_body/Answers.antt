use Rattle.std.proofs.Common.{◌≡◌, List, ap, length, ◌∙◌, arith}
use Rattle.sporc_play.proofs.Common.{delta_bytes, Mark, insertion}
use Rattle.sporc_play.proofs.Insertions.{insertion_short}
use Rattle.sporc_play.proofs.forging.insertion_body.Goals as goal

pub returns-clause-within : goal.returns-clause-within
returns-clause-within c =
    let len = c.committed_len-len.result in
    let at = c.min-at.result in
    let text = c.args.insertion.now.text in
    let delta : c.in_ok-delta.delta ≡ insertion len at text = c.in_ok-delta.ensures.ok ∙ ap (insertion len at) c.as_str.ensures.characters in
    omega (arith, c.masked.ensures.size, ap length c.in_ok-payload.ensures.ok, ap (λ (ms : List Mark). length (delta_bytes ms)) delta, insertion_short len at text)
