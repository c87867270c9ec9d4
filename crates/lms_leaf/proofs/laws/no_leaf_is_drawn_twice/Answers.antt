use Rattle.lms_leaf.proofs.TraceLemmas.{no_leaf_twice}
use Rattle.lms_leaf.proofs.laws.no_leaf_is_drawn_twice.Goals as goal

pub returns : goal.returns
returns g c = record { distinct = no_leaf_twice g.D.LeafDisk.told g.met.D.LeafDisk.stored_is_image }
