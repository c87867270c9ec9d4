use Rattle.std.proofs.Common.{refl}
use Rattle.sporc_play.proofs.Common.{restart_line}
use Rattle.sporc_play.proofs.Becoming.{ok_then, seat_read}
use Rattle.sporc_play.proofs.state.PlayState.restart.Goals as goal
use Rattle.sporc_play.proofs.Commands.{restart_stands, told}

pub returns : goal.returns
returns c =
    let old = c.args.self.now in
    let at = seat_read c.as_slice.result.now old.seats.items c.seat_at-i.result _ c.index_mut.result.now c.as_slice.ensures.value c.seat_at-i.ensures.value c.index_mut.ensures.value in
    record {
      state = ok_then c.restart.result _ _ c.restart.ensures.seat (λ is script scene stands. restart_stands script scene old _ c.seat_at-i.result c.args.restart.now.device c.args.restart.now.entries c.index_mut.result.now c.restart.new.seat stands at is (record { genesis = refl; cast = refl; rogues = refl; seats = refl }) refl);
      line = ok_then c.restart.result _ _ c.restart.ensures.line (λ is script scene stands. told script scene old c.seat_at-i.result c.args.restart.now.device c.index_mut.result.now (restart_line c.args.restart.now.device c.args.restart.now.entries) _ _ stands at is);
    }
