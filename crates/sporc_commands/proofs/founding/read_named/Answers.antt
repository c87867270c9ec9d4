use Rattle.sporc_files.proofs.Asking.{reads_nothing}
use Rattle.sporc_commands.proofs.founding.read_named.Goals as goal

pub returns-in-Joiner-clause-reads : goal.returns-in-Joiner-clause-reads
returns-in-Joiner-clause-reads g c = reads_nothing c.args.names.now _ _
