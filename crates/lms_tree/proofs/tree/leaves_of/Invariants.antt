use Rattle.std.proofs.Common.{◌≡◌, ℕ, ◌+◌, ◌*◌, ◌<◌, [], length, slice_index_or}
use Rattle.lms_ots.specs.Signatures.{ots_public_of}
use Rattle.lms_tree.specs.Nodes.{leaf_value}
use Rattle.lms_tree.proofs.tree.leaves_of.Given as goal

abbrev pub invariant-leaves : goal.invariant-leaves
invariant-leaves l =
    (length l.nodes.items ≡ 2 * l.leaves)
    × ((q : ℕ) → q < l.q → slice_index_or l.nodes.items (l.leaves + q) [] ≡ leaf_value l.id (l.leaves + q) (ots_public_of l.fn.ots l.id q l.seed))
