use Rattle.std.proofs.Common.{true, false, sym, ◌∙◌}
use Rattle.sporc_play.proofs.Common.{same_one, Seat}
use Rattle.sporc_play.proofs.Places.{element, not_in_more, not_same, nowhere}
use Rattle.sporc_play.proofs.seat.seat_at.Goals as goal

pub returns-then-is : goal.returns-then-is
returns-then-is c = record {
  value = (
    c.index-seats-i.result,
    record { there = element c.args.seats.now c.loop-i.i c.index-seats-i.result c.loop-i-test.true c.index-seats-i.is; own = same_one c.index-seats-i.result.device c.args.device (sym c.is.ensures.value ∙ c.if-is.true) },
  );
}

pub loop-i-preserved : goal.loop-i-preserved
loop-i-preserved c =
    not_in_more (λ (x : Seat). x.device) c.args.device c.args.seats.now c.loop-i.i c.index-seats-i.result c.loop-i-test.true c.index-seats-i.is
    (not_same c.index-seats-i.result.device c.args.device (sym c.is.ensures.value ∙ c.if-is.false)) c.loop-i.invariant

pub unreachable-requires : goal.unreachable-requires
unreachable-requires c = nowhere (λ (x : Seat). x.device) c.args.device c.args.seats.now c.loop-i.i c.loop-i-test.false c.loop-i.invariant c.requires.seated
