use Rattle.sporc_entry.proofs.Places.{entry_place, change_place, genesis_place}
use Rattle.sporc_entry.proofs.laws.place_of_a_fault.Goals as goal

pub returns-clause-entry : goal.returns-clause-entry
returns-clause-entry c = entry_place

pub returns-clause-change : goal.returns-clause-change
returns-clause-change c = change_place

pub returns-clause-genesis : goal.returns-clause-genesis
returns-clause-genesis c = genesis_place
