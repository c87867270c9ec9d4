use Rattle.std.proofs.Common.{◌∙◌}
use Rattle.sporc_outside.specs.Uses.{use_of}
use Rattle.sporc_files.proofs.FileFaults.{disk_fault}
use Rattle.sporc_files.proofs.appending.lend_disk.Goals as goal

pub returns-clause-err : goal.returns-clause-err
returns-clause-err g c = disk_fault (use_of g.F.Folder.told c.args.files.now c.leaf_disk.new.self) c.args.names.now c.args.file c.as_str.result.now c.in-Err.fault _ (c.as_str.ensures.value ∙ c.in_ok-name.ensures.ok) c.fault_of_file.ensures.value c.in-Err.ensures.err
