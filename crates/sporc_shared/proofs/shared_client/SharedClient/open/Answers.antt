use Rattle.sporc_shared.proofs.Common.{known_of, items_of, past_of}
use Rattle.sporc_shared.proofs.Calling.{agrees_first}
use Rattle.sporc_shared.proofs.shared_client.SharedClient.open.Goals as goal

pub returns-in-Ok-open-clause-agrees : goal.returns-in-Ok-open-clause-agrees
returns-in-Ok-open-clause-agrees g c = agrees_first (known_of c.in-Ok-open.pass) (items_of (past_of c.in-Ok.client.value)) c.in-Ok-open.ensures.first
