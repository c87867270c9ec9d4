use Rattle.std.proofs.Common.{◌∙◌}
use Rattle.sporc_outside.specs.Uses.{use_of}
use Rattle.sporc_files.proofs.Appendable.{append_fault}
use Rattle.sporc_files.proofs.appending.append_to_file.Goals as goal

pub returns-in-Err-clause-err : goal.returns-in-Err-clause-err
returns-in-Err-clause-err g c = append_fault (use_of g.F.Folder.told c.args.files.now c.append_to.new.self) c.args.names.now c.args.file c.as_str.result.now c.in-Err.fault _ (c.as_str.ensures.value ∙ c.in_ok-name.ensures.ok) c.fault_of_file.ensures.value c.in-Err.ensures.err
