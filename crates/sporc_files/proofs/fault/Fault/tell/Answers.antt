use Rattle.sporc_files.proofs.Written.{tells}
use Rattle.sporc_files.proofs.fault.Fault.tell.Goals as goal

pub returns-clause-line : goal.returns-clause-line
returns-clause-line g c = tells c.write_line.result _ c.args.names.now c.args.self c.write_line.ensures.ok c.write_line.ensures.err c.write_line.ensures.count
