use Rattle.sporc_keys.proofs.KeyFileLaws.{key_file_takes, key_file_again}
use Rattle.sporc_keys.proofs.OtherKeyFiles.{key_file_of_other}
use Rattle.sporc_keys.proofs.laws.key_file_and_its_bytes.Goals as goal

pub returns-clause-read_again : goal.returns-clause-read_again
returns-clause-read_again c = key_file_again

pub returns-clause-written_so : goal.returns-clause-written_so
returns-clause-written_so c = key_file_takes

pub returns-clause-others : goal.returns-clause-others
returns-clause-others c = key_file_of_other
