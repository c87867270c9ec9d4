use Rattle.std.proofs.Common.{◌≡◌, ◌/◌, ◌^◌}
use Rattle.lms_tree.specs.Nodes.{ancestor_of}
use Rattle.lms_tree.proofs.nodes.ancestor_value.Given as goal

abbrev pub invariant-levels : goal.invariant-levels
invariant-levels l = (l.value ≡ ancestor_of l.id l.fn.r l.fn.leaf l.path l.i) × (l.node ≡ l.fn.r / 2 ^ l.i)
