use Rattle.std.proofs.Common.{◌≡◌, ℕ, ◌+◌, arith, length, option_map, Vec, Global}
use Rattle.sporc_play.proofs.Common.{length-map, IsReadySeat}
use Rattle.sporc_play.proofs.Becoming.{entries_of, ok_any, ok_both, seat_read, submit_becomes, submit_tells}
use Rattle.sporc_play.proofs.Places.{at_place}
use Rattle.sporc_play.proofs.state.PlayState.submit.Goals as goal

pub submit-requires : goal.submit-requires
submit-requires c =
    let old = c.args.self.now in
    let x = c.index_mut.result.now in
    let at = seat_read c.as_slice.result.now old.seats.items c.seat_at-i.result _ x c.as_slice.ensures.value c.seat_at-i.ensures.value c.index_mut.ensures.value in
    let ready = at_place IsReadySeat old.seats.items c.seat_at-i.result x c.requires.can.seats at.there in
    record { limit = ready.asked; client = ready.ready }

pub returns : goal.returns
returns c =
    let old = c.args.self.now in
    let at = seat_read c.as_slice.result.now old.seats.items c.seat_at-i.result _ c.index_mut.result.now c.as_slice.ensures.value c.seat_at-i.ensures.value c.index_mut.ensures.value in
    let number : c.len.result + 1 ≡ length (entries_of old) + 1 = omega (arith, c.len.ensures, length-map old.made.items (λ (b : Vec ℕ Global). b.items)) in
    record {
      state = ok_both c.keep_made.result _ _ _ c.keep_made.ensures.others c.keep_made.ensures.made (λ same grown.
          submit_becomes old c.keep_made.new.self c.seat_at-i.result c.args.device _ c.index_mut.result.now c.submit.new.seat (option_map (λ v. v.items) c.in_ok-made.made) at
          (record { genesis = same.genesis; cast = same.cast; rogues = same.rogues; seats = same.seats }) number grown c.in_ok-made.ensures.seat);
      line = ok_any c.keep_made.result _ (submit_tells old c.seat_at-i.result c.args.device _ c.index_mut.result.now _ _ at number c.in_ok-made.ensures.line);
    }
