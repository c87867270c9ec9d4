use Rattle.sporc_store.proofs.SavedLaws.{read_again, written_so}
use Rattle.sporc_store.proofs.laws.history_and_its_file.Goals as goal

pub returns-clause-read_again : goal.returns-clause-read_again
returns-clause-read_again c = read_again

pub returns-clause-written_so : goal.returns-clause-written_so
returns-clause-written_so c = written_so
