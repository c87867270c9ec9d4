use Rattle.sporc_client.proofs.Reached.{reached_at}
use Rattle.sporc_client.proofs.laws.runs_keep_clients.Goals as goal

pub returns : goal.returns
returns c = record { reached = reached_at }
