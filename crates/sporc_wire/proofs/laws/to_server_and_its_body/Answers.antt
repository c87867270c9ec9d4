use Rattle.sporc_wire.proofs.ServerBodies.{to_server_takes, to_server_again}
use Rattle.sporc_wire.proofs.laws.to_server_and_its_body.Goals as goal

pub returns-clause-read_again : goal.returns-clause-read_again
returns-clause-read_again c = to_server_again

pub returns-clause-written_so : goal.returns-clause-written_so
returns-clause-written_so c = to_server_takes
