use Rattle.std.proofs.Common.{◌≤◌, ℕ, List, length, ap, ◌∙◌, arith}
use Rattle.sporc_client.proofs.Common.{take_all, text_of}
use Rattle.sporc_client.proofs.client.showing.committed_len.Goals as goal

pub returns-clause-value : goal.returns-clause-value
returns-clause-value c =
    let line = c.args.line.now in
    let all : length line.entries ≤ c.len.result = omega (arith, c.len.ensures.value) in
    c.text_len_at.ensures.value ∙ ap (λ (es : List (List ℕ)). length (text_of line.genesis line.kit es)) (take_all c.len.result line.entries all)
