use Rattle.std.proofs.Common.{◌≡◌, ◌+◌, drop}
use Rattle.sporc_play.proofs.Common.{place_among, founder_numbers}
use Rattle.sporc_play.proofs.cast.place_of.Given as goal

abbrev pub invariant-loop-i : goal.invariant-loop-i
invariant-loop-i l = place_among l.founder.member (founder_numbers l.founders) ≡ l.i + place_among l.founder.member (founder_numbers (drop l.i l.founders))
