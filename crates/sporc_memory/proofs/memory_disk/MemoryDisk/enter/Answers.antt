use Rattle.std.proofs.Common.{ap, sym, ◌∙◌}
use Rattle.sporc_memory.proofs.Common.{bytes_of}
use Rattle.sporc_memory.proofs.DiskImages.{same_bytes, same_images}
use Rattle.sporc_memory.proofs.memory_disk.MemoryDisk.enter.Goals as goal

pub returns-clause-bytes : goal.returns-clause-bytes
returns-clause-bytes c =
    same_bytes _ _ _ c.args.request c.log_call.result c.requires c.log_call.ensures.logged
    ∙ ap bytes_of c.self.view_is

pub returns-clause-images : goal.returns-clause-images
returns-clause-images c = same_images c.args.self.now _ _ _ _ c.args.request c.log_call.result c.self.view_is c.requires c.log_call.ensures.logged

pub invariant_of-self : goal.invariant_of-self
invariant_of-self c =
    c.self.invariant
    ∙ sym (same_bytes c.self.inside.first.items c.self.inside.log.items c.log_call.new.log.items c.args.request c.log_call.result c.requires c.log_call.ensures.logged)
