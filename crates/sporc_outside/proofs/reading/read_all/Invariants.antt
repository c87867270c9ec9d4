use Rattle.std.proofs.Common.{◌+◌, ◌-◌, ◌≤◌, length}
use Rattle.std.specs.Io.KnownBytes.{Consumes}
use Rattle.sporc_outside.proofs.reading.read_all.Given as goal

abbrev pub invariant-loop-buf : goal.invariant-loop-buf
invariant-loop-buf g l = record {
  within : length l.text.items ≤ l.limit + 1;
  taken : Consumes (g.S.Stream.told l.initial.source).left (g.S.Stream.told l.source).left l.text.items;
  kept : (g.S.Stream.told l.initial.source).faults ≤ (g.S.Stream.told l.source).faults;
}

abbrev pub decreases-loop-buf : goal.decreases-loop-buf
decreases-loop-buf g l = l.limit + 1 - length l.text.items
