use Rattle.sporc_session.proofs.Flowing.{entries_sent, later_sent}
use Rattle.sporc_session.proofs.laws.entries_that_are_made_are_sent.Goals as goal

pub returns : goal.returns
returns c = record { first = entries_sent; second = later_sent }
