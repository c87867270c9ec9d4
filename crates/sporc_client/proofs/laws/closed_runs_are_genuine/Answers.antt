use Rattle.sporc_client.proofs.ClosedRuns.{closed_runs_are_genuine}
use Rattle.sporc_client.proofs.laws.closed_runs_are_genuine.Goals as goal

pub returns : goal.returns
returns c = record { genuine = closed_runs_are_genuine }
