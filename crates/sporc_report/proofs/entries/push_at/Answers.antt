use Rattle.std.proofs.Common.{◌-◌, ◌<◌, length, string_bytes, arith}
use Rattle.sporc_report.proofs.Common.{on_ok_weaker}
use Rattle.sporc_report.proofs.Beginnings.{begins_either}
use Rattle.sporc_report.proofs.Committed.{entry_at, is_read, one_line}
use Rattle.sporc_report.proofs.entries.push_at.Goals as goal

pub push_entry-requires : goal.push_entry-requires
push_entry-requires c =
    let within : c.args.position - 1 < length c.args.line.now.entries = omega (arith, c.requires.positive, c.requires.in_bounds) in
    let at = entry_at (λ v. v.items) c.entries.result.now c.args.line.now.entries (c.args.position - 1) c.index-entries-position.result c.as_slice-entry.result.now c.entries.ensures.value within c.index-entries-position.is
    c.as_slice-entry.ensures.value in
    is_read c.args.line.now.genesis c.args.line.now.kit c.args.line.now.entries (c.args.position - 1) c.as_slice-entry.result.now c.requires.good at

pub returns-clause-grows : goal.returns-clause-grows
returns-clause-grows c =
    begins_either _ _ c.push_entry.result (string_bytes c.args.out.now) (string_bytes c.push_entry.new.out) _ c.push_entry.ensures.ok c.push_entry.ensures.memory

pub returns-clause-ok : goal.returns-clause-ok
returns-clause-ok c =
    let within : c.args.position - 1 < length c.args.line.now.entries = omega (arith, c.requires.positive, c.requires.in_bounds) in
    let at = entry_at (λ v. v.items) c.entries.result.now c.args.line.now.entries (c.args.position - 1) c.index-entries-position.result c.as_slice-entry.result.now c.entries.ensures.value within c.index-entries-position.is
    c.as_slice-entry.ensures.value in
    on_ok_weaker c.push_entry.result
    (one_line c.args.line.now.genesis c.args.line.now.kit c.args.line.now.entries c.args.position c.as_slice-entry.result.now c.form.result.now _ _ c.requires.positive at c.form.ensures.value)
    c.push_entry.ensures.ok
