use Rattle.sporc_memory.proofs.Files.{each_if_removed}
use Rattle.sporc_memory.proofs.memory_folder.MemoryFolderFolder.remove.Goals as goal

pub invariant_of-self : goal.invariant_of-self
invariant_of-self c =
    each_if_removed c.self.inside.files.items c.remove_named.new.files.items c.self.inside.lent.items _ c.as_bytes.result.now _ c.remove_named.result
    c.deref.ensures.value c.remove_named.ensures.gone c.remove_named.ensures.back c.remove_named.ensures.free c.self.invariant
