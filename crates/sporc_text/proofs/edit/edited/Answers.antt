use Rattle.std.proofs.Common.{arith}
use Rattle.sporc_text.proofs.EditLemmas.{edit_begins, edit_fits, edit_goes_on, edit_moves_on}
use Rattle.sporc_text.proofs.edit.edited.Goals as goal

pub edit_part-requires-clause-in_bounds : goal.edit_part-requires-clause-in_bounds
edit_part-requires-clause-in_bounds c =
    edit_fits _ _ _ _ _ _ _ (edit_moves_on _ _ _ _ _ _ _ _ c.loop-part.invariant.edited c.from_place-offset.ensures.behind c.from_place-offset.ensures.len) c.loop-part-test.true c.part-item.is

pub loop-part-init : goal.loop-part-init
loop-part-init c = record { edited = edit_begins _ _ _ _ c.requires.in_bounds; limit = c.requires.limit }

pub loop-part-preserved : goal.loop-part-preserved
loop-part-preserved c = record {
  edited = edit_goes_on _ _ _ _ _ _ _ _ _ (edit_moves_on _ _ _ _ _ _ _ _ c.loop-part.invariant.edited c.from_place-offset.ensures.behind c.from_place-offset.ensures.len) c.loop-part-test.true c.part-item.is
      c.in_ok-at.ensures.next c.in_ok-at.ensures.written;
  limit = omega (arith, c.loop-part.invariant.limit, c.from_place-offset.ensures.len, c.from_place-offset.ensures.within);
}
