use Rattle.lms_leaf.proofs.LifeLemmas.{leaves_rise}
use Rattle.lms_leaf.proofs.laws.leaves_rise_over_lives.Goals as goal

pub returns : goal.returns
returns g c = record { rise = leaves_rise g.D.LeafDisk.told }
