use Rattle.sporc_entry.proofs.EntryLaws.{change_of_entry}
use Rattle.sporc_entry.proofs.laws.change_of_an_entry.Goals as goal

pub returns : goal.returns
returns c = change_of_entry
