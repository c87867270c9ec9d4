use Rattle.std.proofs.Common.{length}
use Rattle.sporc_session.proofs.Common.{into_iter_items}
use Rattle.sporc_session.proofs.receiver.+take_all.Given as goal

abbrev pub decreases-take_all : goal.decreases-take_all
decreases-take_all g l = length (into_iter_items l.entries)
