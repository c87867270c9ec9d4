use Rattle.std.proofs.Common.{◌≡◌, ◌++◌, flat_map, string_bytes}
use Rattle.sporc_report.proofs.Common.{escape}
use Rattle.sporc_report.proofs.quoted.push_all_escaped.Given as goal

abbrev pub invariant-loop-c : goal.invariant-loop-c
invariant-loop-c l = string_bytes l.out ≡ string_bytes l.initial.out ++ flat_map escape l.yielded
