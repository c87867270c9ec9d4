use Rattle.sporc_top.proofs.LeafRuns.{leaves_leaf_file}
use Rattle.sporc_top.proofs.laws.leaf_files_stay.Goals as goal

pub returns : goal.returns
returns g c = λ document device run told none.
    leaves_leaf_file document device
    g.D.LeafDisk.told run told.files told.lent none
