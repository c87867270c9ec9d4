use Rattle.sporc_top.proofs.LeafFiles.{leaf_names_apart}
use Rattle.sporc_top.proofs.LeafRuns.{sign_once_over_runs}
use Rattle.sporc_top.proofs.laws.no_leaf_signs_twice_over_runs.Goals as goal

pub returns : goal.returns
returns g c = record {
  own = leaf_names_apart;
  rise = λ document device. sign_once_over_runs document device g.D.LeafDisk.told g.met.D.LeafDisk.stored_is_image;
}
