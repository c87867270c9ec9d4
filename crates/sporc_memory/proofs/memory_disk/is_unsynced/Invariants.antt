use Rattle.std.proofs.Common.{List, ℕ, take, IsTrue, ◌↔◌}
use Rattle.sporc_memory.proofs.Common.{IsUnsynced, state_after}
use Rattle.sporc_memory.proofs.memory_disk.is_unsynced.Given as goal

abbrev pub invariant-loop-call : goal.invariant-loop-call
invariant-loop-call l = (first : List ℕ) → IsTrue l.is_unsynced ↔ IsUnsynced (state_after first (take l.call-index l.log)).unsynced l.at
