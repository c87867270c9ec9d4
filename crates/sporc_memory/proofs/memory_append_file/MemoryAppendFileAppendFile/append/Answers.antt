use Rattle.sporc_memory.proofs.AppendImages.{append_images, append_unlogged, prefix_failed}
use Rattle.sporc_memory.proofs.memory_append_file.MemoryAppendFileAppendFile.append.Goals as goal

pub returns-in_default-clause-images : goal.returns-in_default-clause-images
returns-in_default-clause-images c = append_unlogged c.args.self.now _ _ _ _ c.args.bytes.now c.self.view_is

pub returns-in_err-log_call-clause-prefix : goal.returns-in_err-log_call-clause-prefix
returns-in_err-log_call-clause-prefix c =
    prefix_failed c.args.self.now _ _ _ _ _ _ c.args.bytes.now c.from_residual.result c.self.view_is c.in_err-log_call.ensures.logged

pub returns-in_err-log_call-clause-images : goal.returns-in_err-log_call-clause-images
returns-in_err-log_call-clause-images c =
    append_images c.args.self.now _ _ _ _ _ c.args.bytes.now c.in-Some.kept c.log_call.result c.self.view_is c.in-Some.ensures.copy c.log_call.ensures.logged

pub returns-clause-images : goal.returns-clause-images
returns-clause-images c =
    append_images c.args.self.now _ _ _ _ _ c.args.bytes.now c.in-Some.kept c.log_call.result c.self.view_is c.in-Some.ensures.copy c.log_call.ensures.logged
