use Rattle.std.proofs.Common.{refl}
use Rattle.sporc_play.proofs.Common.{edit_events, edited_line}
use Rattle.sporc_play.proofs.Becoming.{ok_then, seat_read}
use Rattle.sporc_play.proofs.state.PlayState.edit.Goals as goal
use Rattle.sporc_play.proofs.Commands.{adds_stand, told}

pub returns : goal.returns
returns c =
    let old = c.args.self.now in
    let at = seat_read c.as_slice.result.now old.seats.items c.seat_at-i.result _ c.index_mut.result.now c.as_slice.ensures.value c.seat_at-i.ensures.value c.index_mut.ensures.value in
    record {
      state = ok_then c.edit.result _ _ c.edit.ensures.seat (λ is script scene stands. adds_stand script scene old _ c.seat_at-i.result c.args.edit.now.device c.index_mut.result.now c.edit.new.seat (edit_events c.args.edit.now) stands at is (record { genesis = refl; cast = refl; rogues = refl; seats = refl }) refl);
      line = ok_then c.edit.result _ _ c.edit.ensures.line (λ is script scene stands. told script scene old c.seat_at-i.result c.args.edit.now.device c.index_mut.result.now (edited_line c.args.edit.now) _ _ stands at is);
    }
