use Rattle.sporc_wire.proofs.Common.{to_server_of, to_client_of}
use Rattle.sporc_wire.proofs.Readings.{one_reading}
use Rattle.sporc_wire.proofs.laws.one_reading.Goals as goal

pub returns-clause-to_server : goal.returns-clause-to_server
returns-clause-to_server c = one_reading to_server_of

pub returns-clause-to_client : goal.returns-clause-to_client
returns-clause-to_client c = one_reading to_client_of
