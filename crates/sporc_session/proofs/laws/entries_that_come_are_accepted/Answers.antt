use Rattle.sporc_session.proofs.Flowing.{entries_taken, later_taken}
use Rattle.sporc_session.proofs.laws.entries_that_come_are_accepted.Goals as goal

pub returns : goal.returns
returns c = record { first = entries_taken; second = later_taken }
