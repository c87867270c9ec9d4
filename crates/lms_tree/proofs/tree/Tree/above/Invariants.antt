use Rattle.std.proofs.Common.{◌+◌, ◌-◌}
use Rattle.lms_tree.specs.NodeArray.{HasNodes}
use Rattle.lms_tree.proofs.tree.Tree.above.Given as goal

abbrev pub invariant-inner : goal.invariant-inner
invariant-inner l = HasNodes (record { lms = l.lms; ots = l.ots; id = l.id; seed = l.seed }) l.nodes.items (l.leaves + 1 - l.i)
