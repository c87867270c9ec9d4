use Rattle.std.proofs.Common.{subst}
use Rattle.sporc_outside.specs.LeafDisk.{disk_images}
use Rattle.lms_leaf.specs.LeafFile.{ArePassed, AreTaken}
use Rattle.lms_leaf.specs.Leaves.{LeavesModel}
use Rattle.lms_leaf.proofs.Opened.{passed_below, taken_from}
use Rattle.lms_leaf.proofs.leaves.Leaves.close.Goals as goal

pub returns-clause-taken : goal.returns-clause-taken
returns-clause-taken g c =
    let l = c.self.inside in
    subst (λ (m : LeavesModel g.row.D.Denot). AreTaken (disk_images (g.D.LeafDisk.told l.disk)) m.next_at_open m.next) c.self.view_is
    (taken_from (disk_images (g.D.LeafDisk.told l.disk)) l.next_at_open l.next c.self.invariant.taken)

pub returns-clause-passed : goal.returns-clause-passed
returns-clause-passed g c =
    let l = c.self.inside in
    subst (λ (m : LeavesModel g.row.D.Denot). ArePassed (disk_images (g.D.LeafDisk.told l.disk)) m.next) c.self.view_is
    (passed_below (disk_images (g.D.LeafDisk.told l.disk)) l.next_at_open l.next c.self.invariant.forward c.self.invariant.taken)
