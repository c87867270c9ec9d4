use Rattle.sporc_memory.proofs.AppendImages.{synced_images}
use Rattle.sporc_memory.proofs.memory_append_file.MemoryAppendFileAppendFile.sync.Goals as goal

pub returns-clause-durable : goal.returns-clause-durable
returns-clause-durable c = synced_images c.args.self.now c.enter.new.self c.enter.result c.enter.ensures.logged
