use Rattle.sporc_client.proofs.Calls.{added_lead, opening_leads, restart_leads}
use Rattle.sporc_client.proofs.laws.calls_are_moves.Goals as goal

pub returns : goal.returns
returns c = record { events = added_lead; restarts = restart_leads; opens = opening_leads }
