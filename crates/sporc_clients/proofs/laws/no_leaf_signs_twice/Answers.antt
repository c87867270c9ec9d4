use Rattle.sporc_clients.proofs.Lives.{sign_once}
use Rattle.sporc_clients.proofs.laws.no_leaf_signs_twice.Goals as goal

pub returns : goal.returns
returns g c = record {
  rise = sign_once g.D.LeafDisk.told
      g.met.D.LeafDisk.stored_is_image;
}
