use Rattle.std.proofs.Common.{◌++◌, ℕ, List, string_bytes, codes, append_assoc, ap, sym, ◌∙◌}
use Rattle.sporc_report.proofs.Common.{on_ok_weaker, device_text, compare_line}
use Rattle.std.specs.Fmt.{decimal}
use Rattle.sporc_hash.specs.declared.verdict.Verdict.{Verdict}
use Rattle.sporc_report.proofs.showing.push_verdict.Goals as goal

pub returns-in-ForkedAfter-clause-ok : goal.returns-in-ForkedAfter-clause-ok
returns-in-ForkedAfter-clause-ok c =
    let old = string_bytes c.args.out.now in
    let first = device_text c.args.first in
    let rest = device_text c.args.second ++ (codes " forked after " ++ (decimal c.in-ForkedAfter.count ++ codes "\n")) in
    on_ok_weaker c.push_number.result
    (λ pushed.
    pushed ∙ ap (λ (t : List ℕ). t ++ rest) c.in_ok-push_start.ensures.ok ∙ append_assoc old (first ++ codes " ") rest
    ∙ ap (λ (t : List ℕ). old ++ t) (append_assoc first (codes " ") rest)
    ∙ ap (λ (v : Verdict). old ++ compare_line (record { first = c.args.first; second = c.args.second }) v) (sym c.in-ForkedAfter.is))
    c.push_number.ensures.ok
