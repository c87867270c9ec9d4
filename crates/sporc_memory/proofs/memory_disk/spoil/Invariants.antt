use Rattle.std.proofs.Common.{List, ℕ}
use Rattle.sporc_memory.proofs.Common.{state_after}
use Rattle.sporc_memory.proofs.Spoiling.{SpoiltTo}
use Rattle.sporc_memory.proofs.memory_disk.spoil.Given as goal

abbrev pub invariant-loop-at : goal.invariant-loop-at
invariant-loop-at l = (first : List ℕ) → SpoiltTo (state_after first l.log).unsynced l.byte l.at l.fn.image l.image
