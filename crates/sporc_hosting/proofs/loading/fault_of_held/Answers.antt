use Rattle.sporc_hosting.proofs.Common.{file_name, use_of}
use Rattle.sporc_files.specs.declared.file.File.TheVariants as files
use Rattle.sporc_hosting.proofs.Loaded.{held_last, log_first}
use Rattle.sporc_hosting.proofs.loading.fault_of_held.Goals as goal

pub returns-in-Ok-clause-found : goal.returns-in-Ok-clause-found
returns-in-Ok-clause-found g c =
    held_last (use_of g.F.Folder.told c.args.files.now c.read_log.new.files) (file_name c.args.names.now files.Log) c.args.number
    c.args.genesis _ c.in-Ok.ensures.found

pub returns-in-Err-clause-found : goal.returns-in-Err-clause-found
returns-in-Err-clause-found g c =
    log_first (use_of g.F.Folder.told c.args.files.now c.read_log.new.files) (file_name c.args.names.now files.Log) c.args.number
    c.args.genesis c.in-Err.fault c.in-Err.ensures.found

pub returns-in-Ok-clause-reads : goal.returns-in-Ok-clause-reads
returns-in-Ok-clause-reads g c = c.read_log.ensures.reads

pub returns-in-Err-clause-reads : goal.returns-in-Err-clause-reads
returns-in-Err-clause-reads g c = c.read_log.ensures.reads
