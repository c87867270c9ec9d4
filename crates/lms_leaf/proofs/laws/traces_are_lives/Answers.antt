use Rattle.lms_leaf.proofs.TraceLemmas.{trace_is_life}
use Rattle.lms_leaf.proofs.laws.traces_are_lives.Goals as goal

pub returns : goal.returns
returns g c = record { lives = trace_is_life g.D.LeafDisk.told g.met.D.LeafDisk.stored_is_image }
