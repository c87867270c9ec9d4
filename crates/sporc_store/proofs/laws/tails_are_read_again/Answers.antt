use Rattle.sporc_store.proofs.TailReads.{tail_again}
use Rattle.sporc_store.proofs.laws.tails_are_read_again.Goals as goal

pub returns : goal.returns
returns c = record { again = tail_again }
