-- The array in which a tree keeps its nodes.
use Rattle.std.specs.Prelude.{◌≡◌, ℕ, ◌+◌, ◌*◌, ◌/◌, ◌^◌, ◌≤◌, List, [], length, slice_index_or}
use Rattle.lms_tree.specs.LmsType.{height_of}
use Rattle.lms_tree.specs.LmsPrivate.{LmsPrivate, node_at}

-- `nodes` has the value of each node from `low` on at the node's number; a node with j levels above
-- it and k levels below it has a number of j + 1 bits
pub record HasNodes (key : LmsPrivate) (nodes : List (List ℕ)) (low : ℕ) : Type 0 where
  pub size : length nodes ≡ 2 * 2 ^ height_of key.lms
  pub values : (k j r : ℕ) → k + j ≡ height_of key.lms → r / 2 ^ j ≡ 1 → low ≤ r
      → slice_index_or nodes r [] ≡ node_at key k r
