use Rattle.std.proofs.Common.{refl}
use Rattle.sporc_play.proofs.Common.{discard_events, discard_line}
use Rattle.sporc_play.proofs.Becoming.{ok_then, seat_read}
use Rattle.sporc_play.proofs.state.PlayState.discard.Goals as goal
use Rattle.sporc_play.proofs.Commands.{adds_stand, told}

pub returns : goal.returns
returns c =
    let old = c.args.self.now in
    let at = seat_read c.as_slice.result.now old.seats.items c.seat_at-i.result _ c.index_mut.result.now c.as_slice.ensures.value c.seat_at-i.ensures.value c.index_mut.ensures.value in
    record {
      state = ok_then c.discard.result _ _ c.discard.ensures.seat (λ is script scene stands. adds_stand script scene old _ c.seat_at-i.result c.args.device c.index_mut.result.now c.discard.new.seat discard_events stands at is (record { genesis = refl; cast = refl; rogues = refl; seats = refl }) refl);
      line = ok_then c.discard.result _ _ c.discard.ensures.line (λ is script scene stands. told script scene old c.seat_at-i.result c.args.device c.index_mut.result.now (discard_line c.args.device) _ _ stands at is);
    }
