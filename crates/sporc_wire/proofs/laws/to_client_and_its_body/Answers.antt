use Rattle.sporc_wire.proofs.ClientBodies.{to_client_takes, to_client_again}
use Rattle.sporc_wire.proofs.laws.to_client_and_its_body.Goals as goal

pub returns-clause-read_again : goal.returns-clause-read_again
returns-clause-read_again c = to_client_again

pub returns-clause-written_so : goal.returns-clause-written_so
returns-clause-written_so c = to_client_takes
