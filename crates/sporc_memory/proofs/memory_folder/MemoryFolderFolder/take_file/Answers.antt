use Rattle.sporc_memory.proofs.Files.{each_put}
use Rattle.sporc_memory.proofs.memory_folder.MemoryFolderFolder.take_file.Goals as goal

pub invariant_of-self : goal.invariant_of-self
invariant_of-self c =
    each_put c.self.inside.files.items c.put_if_there.new.files.items c.self.inside.lent.items c.as_bytes.result.now _ c.put_if_there.ensures c.self.invariant
