use Rattle.sporc_memory.proofs.AppendImages.{cut_failed, cut_images}
use Rattle.sporc_memory.proofs.memory_append_file.MemoryAppendFileAppendFile.cut.Goals as goal

pub returns-in_err-log_call-clause-uncut : goal.returns-in_err-log_call-clause-uncut
returns-in_err-log_call-clause-uncut c =
    cut_failed c.args.self.now _ _ _ _ _ c.args.len c.from_residual.result c.self.view_is c.in_err-log_call.ensures.logged

pub returns-in_err-log_call-clause-images : goal.returns-in_err-log_call-clause-images
returns-in_err-log_call-clause-images c = cut_images c.args.self.now _ _ _ _ _ c.args.len c.log_call.result c.self.view_is c.log_call.ensures.logged

pub returns-clause-images : goal.returns-clause-images
returns-clause-images c = cut_images c.args.self.now _ _ _ _ _ c.args.len c.log_call.result c.self.view_is c.log_call.ensures.logged
