use Rattle.std.proofs.Common.{◌≡◌, map, take}
use Rattle.sporc_memory.proofs.Common.{listed_of}
use Rattle.sporc_memory.specs.MemoryAppendFile.{state_after}
use Rattle.sporc_memory.proofs.memory_append_file.list_images.Given as goal

abbrev pub invariant-loop-call : goal.invariant-loop-call
invariant-loop-call l =
    let s = state_after l.first (take l.call-index l.log) in
    (l.bytes.items ≡ s.bytes) × (map (λ image. image.items) l.images.items ≡ listed_of s.unsynced)
