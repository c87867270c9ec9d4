use Rattle.std.proofs.Common.{◌≡◌, ◌+◌, ◌-◌, ◌≤◌, length}
use Rattle.std.specs.Io.KnownBytes.{Keeps}
use Rattle.sporc_outside.specs.Lines.{HasLine, unread_of}
use Rattle.sporc_outside.proofs.lines.Lines.next_line.Given as goal

abbrev pub invariant-loop-self : goal.invariant-loop-self
invariant-loop-self g l = record {
  unread : Keeps (unread_of l.initial.self (g.S.Stream.told l.initial.source).left) (unread_of l.self (g.S.Stream.told l.source).left);
  held : HasLine l.initial.self.held → (l.self.held ≡ l.initial.self.held) × (l.source ≡ l.initial.source);
  limit : l.self.limit ≡ l.initial.self.limit;
  kept : (g.S.Stream.told l.initial.source).faults ≤ (g.S.Stream.told l.source).faults;
}

abbrev pub decreases-loop-self : goal.decreases-loop-self
decreases-loop-self g l = l.self.limit + 1 - length l.self.held
