use Rattle.std.proofs.Common.{◌≡◌, ◌++◌, arith, length, w32, refl}
use Rattle.std.specs.Int.{to_be_bytes}
use Rattle.lms_ots.proofs.ConcatenatedLemmas.{concatenated_none, concatenated_more}
use Rattle.lms_tree.specs.LmsPrivate.{value_at}
use Rattle.lms_tree.proofs.tree.assembled.Goals as goal

pub levels-init : goal.levels-init
levels-init c =
    rw (
      c.in_ok-extend_from_slice-3.ensures.items,
      c.in_ok-extend_from_slice-2.ensures.items,
      c.in_ok-extend_from_slice.ensures.items,
      c.in_ok-signature.ensures.items,
      c.to_be_bytes.ensures,
      c.to_be_bytes-2.ensures,
    ) (concatenated_none _ _)

pub levels-preserved : goal.levels-preserved
levels-preserved c =
    concatenated_more (to_be_bytes w32 c.args.q ++ c.args.ots_signature.now ++ to_be_bytes w32 c.args.code) (value_at c.args.path.now) c.levels.value-index
    _ _ _ c.levels.invariant c.in_ok-extend_from_slice-4.ensures.items refl

pub returns : goal.returns
returns c =
    let done : c.levels.value-index ≡ length c.args.path.now = omega arith in
    rw (← done) c.levels.invariant
