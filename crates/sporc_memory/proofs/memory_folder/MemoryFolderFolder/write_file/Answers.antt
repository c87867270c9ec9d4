use Rattle.sporc_memory.proofs.Files.{each_if_written}
use Rattle.sporc_memory.proofs.memory_folder.MemoryFolderFolder.write_file.Goals as goal

pub invariant_of-self-2 : goal.invariant_of-self-2
invariant_of-self-2 c = each_if_written c.self.inside.files.items c.write_file.new.files.items c.self.inside.lent.items c.as_bytes.result.now c.args.bytes.now c.write_file.result c.write_file.ensures.ok c.write_file.ensures.unchanged c.self.invariant
