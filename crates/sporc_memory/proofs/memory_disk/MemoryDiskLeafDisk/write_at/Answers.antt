use Rattle.std.proofs.Common.{ℕ, List, Some, ap, sym, ◌∙◌, length}
use Rattle.sporc_memory.proofs.Common.{overwrite, MemoryDiskModel, bytes_of}
use Rattle.sporc_memory.proofs.DiskImages.{passes_write, others_write, others_unwritten, bytes_written, bytes_unwritten}
use Rattle.sporc_memory.proofs.memory_disk.MemoryDiskLeafDisk.write_at.Goals as goal

pub returns-in_err-log_call-clause-images : goal.returns-in_err-log_call-clause-images
returns-in_err-log_call-clause-images c =
    passes_write c.args.self.now _ _ _ _ c.args.at c.args.bytes.now _ c.log_call.result c.self.view_is (c.new.ensures.value ∙ c.in-Ok.ensures.items)
    c.log_call.ensures.logged c.requires

pub returns-clause-others : goal.returns-clause-others
returns-clause-others c =
    others_write c.args.self.now _ _ _ _ c.args.at c.args.bytes.now _ c.self.view_is (c.new.ensures.value ∙ c.in-Ok.ensures.items)
    c.in_ok-log_call.ensures.logged c.requires

pub returns-clause-images : goal.returns-clause-images
returns-clause-images c =
    passes_write c.args.self.now _ _ _ _ c.args.at c.args.bytes.now _ c.log_call.result c.self.view_is (c.new.ensures.value ∙ c.in-Ok.ensures.items)
    c.log_call.ensures.logged c.requires

pub invariant_of-self-2 : goal.invariant_of-self-2
invariant_of-self-2 c =
    c.write_over.ensures ∙ ap (λ (old : List ℕ). overwrite old c.args.at c.args.bytes.now) c.self.invariant
    ∙ sym (bytes_written c.self.inside.first.items c.self.inside.log.items c.log_call.new.log.items c.args.at c.args.bytes.now _
    (c.new.ensures.value ∙ c.in-Ok.ensures.items) c.in_ok-log_call.ensures.logged)

pub invariant_of-self-in_err-log_call : goal.invariant_of-self-in_err-log_call
invariant_of-self-in_err-log_call c =
    c.self.invariant
    ∙ sym (bytes_unwritten c.self.inside.first.items c.self.inside.log.items c.log_call.new.log.items c.args.at c.new.result c.in_err-log_call.ensures.logged)

pub returns-in_err-log_call-clause-others : goal.returns-in_err-log_call-clause-others
returns-in_err-log_call-clause-others c =
    others_unwritten c.args.at (length c.args.bytes.now) _ _
    (bytes_unwritten c.self.inside.first.items c.self.inside.log.items c.log_call.new.log.items c.args.at c.new.result c.in_err-log_call.ensures.logged
    ∙ ap bytes_of c.self.view_is)

pub returns-clause-written : goal.returns-clause-written
returns-clause-written c =
    ap Some (bytes_written c.self.inside.first.items c.self.inside.log.items c.log_call.new.log.items c.args.at c.args.bytes.now _
    (c.new.ensures.value ∙ c.in-Ok.ensures.items) c.in_ok-log_call.ensures.logged
    ∙ ap (λ (d : MemoryDiskModel). overwrite (bytes_of d) c.args.at c.args.bytes.now) c.self.view_is)
