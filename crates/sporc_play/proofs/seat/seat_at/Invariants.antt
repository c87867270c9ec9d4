use Rattle.std.proofs.Common.{take}
use Rattle.sporc_play.proofs.Common.{seated}
use Rattle.sporc_play.proofs.Places.{IsNotIn}
use Rattle.sporc_play.proofs.seat.seat_at.Given as goal

abbrev pub invariant-loop-i : goal.invariant-loop-i
invariant-loop-i l = IsNotIn l.device (seated (take l.i l.seats))
