use Rattle.sporc_entry.proofs.ChangeLaws.{change_body_takes, change_body_again}
use Rattle.sporc_entry.proofs.laws.change_and_its_bytes.Goals as goal

pub returns-clause-read_again : goal.returns-clause-read_again
returns-clause-read_again c = change_body_again

pub returns-clause-written_so : goal.returns-clause-written_so
returns-clause-written_so c = change_body_takes
