use Rattle.std.proofs.Common.{refl}
use Rattle.lms_tree.proofs.NodeArrayLemmas.{root_is}
use Rattle.lms_tree.proofs.tree.Tree.public.Goals as goal

pub returns : goal.returns
returns c =
    let root = root_is _ _ _ c.self.invariant c.index.ensures in
    record { value = rw (← c.self.view_is, root) refl }
