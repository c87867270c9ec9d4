use Rattle.std.proofs.Common.{◌≡◌, ◌++◌, take, string_bytes}
use Rattle.sporc_report.proofs.Common.{journal_lines}
use Rattle.sporc_report.proofs.journal.push_journal.Given as goal

abbrev pub invariant-loop-event : goal.invariant-loop-event
invariant-loop-event l = string_bytes l.out ≡ string_bytes l.initial.out ++ journal_lines (take l.event-index l.journal)
