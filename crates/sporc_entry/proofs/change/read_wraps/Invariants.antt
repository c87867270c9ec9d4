use Rattle.std.proofs.Common.{◌≡◌, ◌-◌}
use Rattle.sporc_entry.proofs.Common.{values_at, wrap_at, with_front}
use Rattle.sporc_entry.proofs.change.read_wraps.Given as goal

abbrev pub invariant-loop : goal.invariant-loop
invariant-loop l = with_front l.wraps.items (values_at wrap_at (l.count - l.counter) l.cursor) ≡ values_at wrap_at l.count l.fn.cursor
