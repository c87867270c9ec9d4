use Rattle.std.proofs.Common.{◌≡◌, ◌-◌, ◌++◌, length, string_bytes}
use Rattle.sporc_report.proofs.Common.{StartsWith, committed, entry_lines, lines_behind}
use Rattle.sporc_report.proofs.entries.push_entries.Given as goal

abbrev pub invariant-lines : goal.invariant-lines
invariant-lines l = record {
  told : string_bytes l.out ++ lines_behind l.behind (committed l.line.genesis l.line.kit l.line.entries)
      ≡ string_bytes l.initial.out ++ entry_lines l.from l.line.genesis l.line.kit l.line.entries;
  grows : StartsWith (string_bytes l.out) (string_bytes l.initial.out);
}

abbrev pub decreases-lines : goal.decreases-lines
decreases-lines l = length l.line.entries - l.behind
