use Rattle.sporc_entry.proofs.GenesisLaws.{genesis_takes, genesis_again}
use Rattle.sporc_entry.proofs.laws.genesis_and_its_bytes.Goals as goal

pub returns-clause-read_again : goal.returns-clause-read_again
returns-clause-read_again c = genesis_again

pub returns-clause-written_so : goal.returns-clause-written_so
returns-clause-written_so c = genesis_takes
