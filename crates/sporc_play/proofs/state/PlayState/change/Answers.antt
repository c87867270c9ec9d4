use Rattle.std.proofs.Common.{refl}
use Rattle.sporc_play.proofs.Common.{change_line}
use Rattle.sporc_play.proofs.Becoming.{change_becomes, ok_then, seat_read}
use Rattle.sporc_play.proofs.state.PlayState.change.Goals as goal
use Rattle.sporc_play.proofs.Commands.{told}

pub returns : goal.returns
returns c =
    let old = c.args.self.now in
    let at = seat_read c.as_slice.result.now old.seats.items c.seat_at-i.result _ c.index_mut.result.now c.as_slice.ensures.value c.seat_at-i.ensures.value c.index_mut.ensures.value in
    record {
      state = ok_then c.change.result _ _ c.change.ensures.seat (λ is. change_becomes old _ c.args.edit.now c.seat_at-i.result c.index_mut.result.now c.change.new.seat c.in_ok-change.change at (record { genesis = refl; cast = refl; rogues = refl; seats = refl }) refl c.in_ok-change.ensures.value is);
      line = ok_then c.change.result _ _ c.change.ensures.line (λ is script scene stands. told script scene old c.seat_at-i.result c.args.edit.now.device c.index_mut.result.now (change_line c.args.edit.now.device) _ _ stands at is);
    }
