use Rattle.sporc_evidence.proofs.FormatLaws.{file_takes, file_again}
use Rattle.sporc_evidence.proofs.laws.summary_and_its_bytes.Goals as goal

pub returns-clause-read_again : goal.returns-clause-read_again
returns-clause-read_again c = file_again

pub returns-clause-written_so : goal.returns-clause-written_so
returns-clause-written_so c = file_takes
