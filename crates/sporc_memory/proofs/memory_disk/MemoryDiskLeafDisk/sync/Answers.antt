use Rattle.sporc_memory.proofs.DiskImages.{synced_images}
use Rattle.sporc_memory.proofs.memory_disk.MemoryDiskLeafDisk.sync.Goals as goal

pub returns-clause-durable : goal.returns-clause-durable
returns-clause-durable c = synced_images c.args.self.now c.enter.new.self c.enter.result c.enter.ensures.logged
