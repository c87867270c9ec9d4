use Rattle.std.proofs.Common.{◌≡◌, ◌≤◌, ℕ, List}
use Rattle.sporc_serve.proofs.Common.{inlet_at, Waits}
use Rattle.sporc_serve.proofs.first.first_message.Given as goal

abbrev pub invariant-loop : goal.invariant-loop
invariant-loop g l = record {
  waits : (bytes : List ℕ) × Waits (inlet_at (g.L.Stream.told l.initial.link) l.initial.frames)
      (inlet_at (g.L.Stream.told l.link) l.frames) bytes;
  written : (g.L.Stream.told l.link).written ≡ (g.L.Stream.told l.initial.link).written;
  shut : (g.L.Stream.told l.link).is_shut ≡ (g.L.Stream.told l.initial.link).is_shut;
  kept : (g.L.Stream.told l.initial.link).faults ≤ (g.L.Stream.told l.link).faults;
}
