use Rattle.std.proofs.Common.{◌≡◌, ◌∙◌, Some, ap₂, sym}
use Rattle.sporc_memory.proofs.Common.{file_in}
use Rattle.sporc_memory.proofs.Files.{each_lent}
use Rattle.sporc_memory.proofs.memory_folder.MemoryFolderFolder.leaf_disk.Goals as goal

pub invariant_of-self-2 : goal.invariant_of-self-2
invariant_of-self-2 c =
    let there : file_in c.self.inside.files.items c.as_bytes.result.now ≡ Some c.in_ok-bytes.bytes.now =
    ap₂ file_in (sym c.deref.ensures.value) c.as_bytes.ensures.value ∙ c.in_ok-bytes.ensures.ok.0 in
    each_lent c.self.inside.files.items c.self.inside.lent.items c.lend.new.lent.items c.as_bytes.result.now c.in_ok-bytes.bytes.now c.lend.result
    there c.lend.ensures.lent c.lend.ensures.lent_unchanged c.self.invariant
