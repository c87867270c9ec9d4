use Rattle.std.proofs.Common.{◌≤◌, ◌++◌, List, ℕ, length, string_bytes, ap, sym, ◌∙◌, append-nil, arith}
use Rattle.sporc_report.proofs.Committed.{no_lines}
use Rattle.sporc_report.proofs.entries.push_entries.Goals as goal

pub returns-clause-ok : goal.returns-clause-ok
returns-clause-ok c =
    let past : length c.args.line.now.entries ≤ c.lines.behind = omega (arith, c.lines-test.false, c.len.ensures.value) in
    let out = string_bytes c.lines.out in
    sym (append-nil out)
    ∙ ap (λ (t : List ℕ). out ++ t) (sym (no_lines c.args.line.now.genesis c.args.line.now.kit c.args.line.now.entries c.lines.behind past))
    ∙ c.lines.invariant.told
