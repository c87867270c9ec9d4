use Rattle.sporc_client.proofs.Agreed.{agree}
use Rattle.sporc_client.proofs.laws.runs_agree.Goals as goal

pub returns : goal.returns
returns c = record { agree = agree }
