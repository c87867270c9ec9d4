use Rattle.std.proofs.Common.{◌-◌, ◌≤◌, length}
use Rattle.sporc_outside.specs.Lines.{line_len}
use Rattle.sporc_outside.proofs.lines.line_len.Given as goal

abbrev pub invariant-loop-len : goal.invariant-loop-len
invariant-loop-len l = l.len ≤ line_len l.bytes

abbrev pub decreases-loop-len : goal.decreases-loop-len
decreases-loop-len l = length l.bytes - l.len
