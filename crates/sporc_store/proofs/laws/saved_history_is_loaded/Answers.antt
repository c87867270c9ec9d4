use Rattle.sporc_store.proofs.Loads.{loads_for_a_member, loads_by_an_order}
use Rattle.sporc_store.proofs.laws.saved_history_is_loaded.Goals as goal

pub returns-clause-for_a_member : goal.returns-clause-for_a_member
returns-clause-for_a_member c = loads_for_a_member

pub returns-clause-by_an_order : goal.returns-clause-by_an_order
returns-clause-by_an_order c = loads_by_an_order
