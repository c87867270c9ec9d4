use Rattle.sporc_memory.proofs.Files.{each_if_written}
use Rattle.sporc_memory.proofs.memory_folder.MemoryFolderFolder.write_new.Goals as goal

pub invariant_of-self-2 : goal.invariant_of-self-2
invariant_of-self-2 c = each_if_written c.self.inside.files.items c.write_new.new.files.items c.self.inside.lent.items c.as_bytes.result.now c.args.bytes.now c.write_new.result c.write_new.ensures.ok c.write_new.ensures.unchanged c.self.invariant
