use Rattle.std.proofs.Common.{arith}
use Rattle.lms_tree.proofs.NodeArrayLemmas.{leaves_are, leaves_is}
use Rattle.lms_tree.proofs.tree.leaves_of.Goals as goal

pub returns : goal.returns
returns c =
    let all = leaves_is _ _ c.height.ensures.value (omega arith) in
    leaves_are _ _ _ c.leaves.q all c.leaves.invariant (omega arith)
