use Rattle.std.proofs.Common.{◌≡◌, None, take}
use Rattle.sporc_memory.proofs.Common.{file_in}
use Rattle.sporc_memory.proofs.memory_folder.place_of.Given as goal

abbrev pub invariant-loop-i : goal.invariant-loop-i
invariant-loop-i l = file_in (take l.i l.files) l.name ≡ None
