use Rattle.std.proofs.Common.{◌++◌, List, ℕ, ap, ◌∙◌}
use Rattle.sporc_play.proofs.Common.{state_of, summary_line}
use Rattle.sporc_play.proofs.generated.summary.Goals as goal

pub returns : goal.returns
returns c = λ scene stands.
    let first = state_of c.open_client-first.result.now in
    let second = state_of c.open_client-second.result.now in
    let third = state_of c.open_client-third.result.now in
    let word = c.in_ok-word.word.now in (
      first,
      second,
      third,
      word,
      c.open_client-first.ensures scene stands,
      c.open_client-second.ensures scene stands,
      c.open_client-third.ensures scene stands,
      c.in_ok-word.ensures,
      c.in_ok-push_summary.ensures ∙ ap (λ (old : List ℕ). old ++ summary_line first word) c.new-line.ensures.bytes,
    )
