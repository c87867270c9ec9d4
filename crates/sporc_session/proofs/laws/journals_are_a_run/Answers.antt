use Rattle.sporc_session.proofs.Runs.{journals_run}
use Rattle.sporc_session.proofs.laws.journals_are_a_run.Goals as goal

pub returns : goal.returns
returns c = record { run = journals_run }
