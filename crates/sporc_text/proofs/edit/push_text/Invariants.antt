use Rattle.std.proofs.Common.{◌≡◌, ◌++◌}
use Rattle.sporc_text.proofs.edit.push_text.Given as goal

abbrev pub invariant-loop-c : goal.invariant-loop-c
invariant-loop-c l = l.out.items ≡ l.initial.out.items ++ l.yielded
