use Rattle.std.proofs.Common.{refl}
use Rattle.sporc_play.proofs.Becoming.{entry_found, give_becomes, give_tells, ok_then, seat_read}
use Rattle.sporc_play.proofs.state.PlayState.give.Goals as goal

pub returns : goal.returns
returns c =
    let old = c.args.self.now in
    let at = seat_read c.as_slice.result.now old.seats.items c.seat_at-i.result _ c.index_mut.result.now c.as_slice.ensures.value c.seat_at-i.ensures.value c.index_mut.ensures.value in
    record {
      state = ok_then c.give.result _ _ c.give.ensures.seat (λ is. give_becomes old _ c.args.give.now c.seat_at-i.result c.index_mut.result.now c.give.new.seat _ at (record { genesis = refl; cast = refl; rogues = refl; seats = refl }) refl (entry_found c.as_slice-2.result.now old.made.items c.args.give.now.entry _ c.as_slice-2.ensures.value c.entry_at-entry.ensures.value) is);
      line = ok_then c.give.result _ _ c.give.ensures.line (λ is. give_tells old c.args.give.now c.seat_at-i.result c.index_mut.result.now _ _ _ at (entry_found c.as_slice-2.result.now old.made.items c.args.give.now.entry _ c.as_slice-2.ensures.value c.entry_at-entry.ensures.value) is);
    }
