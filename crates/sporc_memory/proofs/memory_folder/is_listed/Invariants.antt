use Rattle.std.proofs.Common.{◌≡◌, false, take}
use Rattle.sporc_memory.proofs.Common.{All, bytes_eq}
use Rattle.sporc_memory.proofs.memory_folder.is_listed.Given as goal

abbrev pub invariant-loop-i : goal.invariant-loop-i
invariant-loop-i l = All (λ other. bytes_eq other l.name ≡ false) (take l.i l.names)
