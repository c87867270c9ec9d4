use Rattle.std.proofs.Common.{◌≡◌, ◌-◌}
use Rattle.sporc_entry.proofs.Common.{values_at, wrap_at, left_by}
use Rattle.sporc_entry.proofs.skimming.skim_wraps.Given as goal

abbrev pub invariant-loop : goal.invariant-loop
invariant-loop l = left_by (values_at wrap_at (l.count - l.counter) l.cursor) ≡ left_by (values_at wrap_at l.count l.fn.cursor)
