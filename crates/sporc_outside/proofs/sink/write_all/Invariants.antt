use Rattle.std.proofs.Common.{◌≡◌, ◌-◌, ◌≤◌, length, take}
use Rattle.std.specs.Io.KnownBytes.{Appends}
use Rattle.sporc_outside.proofs.sink.write_all.Given as goal

abbrev pub invariant-loop-at : goal.invariant-loop-at
invariant-loop-at g l = record {
  within : l.at ≤ length l.bytes;
  written : Appends (g.O.Stream.told l.initial.out).written (g.O.Stream.told l.out).written (take l.at l.bytes);
  left : (g.O.Stream.told l.out).left ≡ (g.O.Stream.told l.initial.out).left;
  shut : (g.O.Stream.told l.out).is_shut ≡ (g.O.Stream.told l.initial.out).is_shut;
  kept : (g.O.Stream.told l.initial.out).faults ≤ (g.O.Stream.told l.out).faults;
}

abbrev pub decreases-loop-at : goal.decreases-loop-at
decreases-loop-at g l = length l.bytes - l.at
