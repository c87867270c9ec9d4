use Rattle.std.proofs.Common.{arith}
use Rattle.lms_tree.proofs.AncestorLemmas.{ancestor_none, ancestor_more}
use Rattle.lms_tree.proofs.nodes.ancestor_value.Goals as goal

pub levels-init : goal.levels-init
levels-init c = ancestor_none _ _ _ _

pub levels-preserved : goal.levels-preserved
levels-preserved c =
    ancestor_more _ _ _ _ c.levels.i _ _ _ _ _ c.levels.invariant (omega arith) c.copy_from_slice.ensures.after c.parent_value-value.ensures
