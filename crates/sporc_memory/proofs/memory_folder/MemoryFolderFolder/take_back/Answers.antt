use Rattle.std.proofs.Common.{[], ◌∷◌}
use Rattle.sporc_memory.proofs.Files.{each_left}
use Rattle.sporc_memory.proofs.memory_folder.MemoryFolderFolder.take_back.Goals as goal

pub invariant_of-self : goal.invariant_of-self
invariant_of-self c =
    each_left c.self.inside.files.items c.put.new.files.items c.self.inside.lent.items c.pop.new.self.items (c.in-Some.name ∷ []) c.as_slice.result.now c.into_bytes.result.items
    c.in-Some.ensures.items c.put.ensures c.self.invariant
