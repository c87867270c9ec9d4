use Rattle.std.proofs.Common.{◌≡◌, ◌++◌, w32}
use Rattle.std.specs.Int.{to_be_bytes}
use Rattle.lms_ots.specs.Chains.{concatenated}
use Rattle.lms_tree.specs.LmsPrivate.{value_at}
use Rattle.lms_tree.proofs.tree.assembled.Given as goal

abbrev pub invariant-levels : goal.invariant-levels
invariant-levels l =
    l.signature.items ≡ to_be_bytes w32 l.fn.q ++ l.fn.ots_signature ++ to_be_bytes w32 l.fn.code ++ concatenated (value_at l.path) l.value-index
