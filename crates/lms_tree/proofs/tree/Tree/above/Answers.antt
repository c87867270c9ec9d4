use Rattle.std.proofs.Common.{arith}
use Rattle.lms_tree.proofs.NodeArrayLemmas.{node_stored, leaves_is}
use Rattle.lms_tree.proofs.tree.Tree.above.Goals as goal

pub inner-preserved : goal.inner-preserved
inner-preserved c =
    let all = leaves_is _ _ c.height.ensures.value (omega arith) in
    node_stored _ _ _ c.inner.i _ _ _ all (omega arith) (omega arith) c.inner.invariant c.index.ensures c.index-in-inner.ensures
    c.inner_value-value.ensures
