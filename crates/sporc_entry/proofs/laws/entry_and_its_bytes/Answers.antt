use Rattle.sporc_entry.proofs.EntryLaws.{entry_takes, entry_again}
use Rattle.sporc_entry.proofs.laws.entry_and_its_bytes.Goals as goal

pub returns-clause-read_again : goal.returns-clause-read_again
returns-clause-read_again c = entry_again

pub returns-clause-written_so : goal.returns-clause-written_so
returns-clause-written_so c = entry_takes
