use Rattle.sporc_editor.proofs.AskedReaders.{asked_none, asked_some}
use Rattle.sporc_editor.proofs.reading.read_asked.Goals as goal

pub returns-clause-some : goal.returns-clause-some
returns-clause-some c = asked_some c.args.line.now c.in_ok-found.found c.in_ok-found.ensures

pub returns-clause-none : goal.returns-clause-none
returns-clause-none c = asked_none c.args.line.now c.in_ok-found.found c.in_ok-found.ensures
