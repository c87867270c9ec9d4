use Rattle.std.proofs.Common.{◌≡◌, ◌++◌, flat_map, take, string_bytes}
use Rattle.sporc_report.proofs.Common.{spaced_part}
use Rattle.sporc_report.proofs.journal.push_spaced.Given as goal

abbrev pub invariant-loop-part : goal.invariant-loop-part
invariant-loop-part l = string_bytes l.out ≡ string_bytes l.initial.out ++ flat_map spaced_part (take l.part-index l.parts)
