use Rattle.std.proofs.Common.{refl, sym, ap, ◌∙◌}
use Rattle.sporc_play.proofs.Common.{Seat}
use Rattle.sporc_play.proofs.Becoming.{seat_read}
use Rattle.sporc_play.proofs.seat.client_of.Goals as goal

pub returns : goal.returns
returns c =
    let seats = c.args.seats.now in
    let seat = c.index-seats-i.result in
    record {
      value = (
        c.seat_at-i.result,
        seat,
        seat_read seats seats c.seat_at-i.result c.args.device seat refl c.seat_at-i.ensures.value c.index-seats-i.is,
        c.as_ref.ensures.value ∙ ap (λ (s : Seat). s.client) (sym c.index-seats-i.is),
      );
    }
