use Rattle.sporc_memory.proofs.Files.{each_if_made}
use Rattle.sporc_memory.proofs.memory_folder.MemoryFolderFolder.append_to.Goals as goal

pub invariant_of-self-2 : goal.invariant_of-self-2
invariant_of-self-2 c =
    each_if_made c.self.inside.files.items c.appended.new.files.items c.self.inside.lent.items c.as_bytes.result.now c.appended.result
    c.appended.ensures.made c.appended.ensures.unchanged c.self.invariant
