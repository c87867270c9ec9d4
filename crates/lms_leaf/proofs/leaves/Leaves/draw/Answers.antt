use Rattle.sporc_outside.specs.LeafDisk.{disk_images}
use Rattle.lms_leaf.proofs.Drawn.{begun}
use Rattle.lms_leaf.proofs.Opened.{taken_from}
use Rattle.lms_leaf.proofs.leaves.Leaves.draw.Goals as goal

pub begin_block-requires-clause-begun : goal.begin_block-requires-clause-begun
begin_block-requires-clause-begun g c =
    let old = c.self.inside in
    let known = c.self.invariant in
    begun (disk_images (g.D.LeafDisk.told old.disk)) old.next_at_open old.next known.opened known.forward
    (taken_from (disk_images (g.D.LeafDisk.told old.disk)) old.next_at_open old.next known.taken)
