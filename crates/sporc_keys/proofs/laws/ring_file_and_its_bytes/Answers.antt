use Rattle.sporc_keys.proofs.RingFileLaws.{ring_file_takes, ring_file_again}
use Rattle.sporc_keys.proofs.laws.ring_file_and_its_bytes.Goals as goal

pub returns-clause-read_again : goal.returns-clause-read_again
returns-clause-read_again c = ring_file_again

pub returns-clause-written_so : goal.returns-clause-written_so
returns-clause-written_so c = ring_file_takes
