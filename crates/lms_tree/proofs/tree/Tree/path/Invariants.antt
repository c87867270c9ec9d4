use Rattle.std.proofs.Common.{◌≡◌, ◌+◌, ◌/◌, ◌^◌}
use Rattle.lms_tree.specs.LmsType.{height_of}
use Rattle.lms_tree.specs.LmsPrivate.{path_of}
use Rattle.lms_tree.proofs.tree.Tree.path.Given as goal

abbrev pub invariant-levels : goal.invariant-levels
invariant-levels l =
    (l.path.items ≡ path_of l.fn.self l.fn.q l._level)
    × (l.node ≡ (2 ^ height_of l.fn.self.lms + l.fn.q) / 2 ^ l._level)
