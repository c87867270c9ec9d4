use Rattle.std.proofs.Common.{take}
use Rattle.sporc_play.proofs.Common.{rogue_devices}
use Rattle.sporc_play.proofs.Places.{IsNotIn}
use Rattle.sporc_play.proofs.seat.rogue_at.Given as goal

abbrev pub invariant-loop-i : goal.invariant-loop-i
invariant-loop-i l = IsNotIn l.device (rogue_devices (take l.i l.rogues))
