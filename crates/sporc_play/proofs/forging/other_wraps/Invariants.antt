use Rattle.std.proofs.Common.{◌≡◌, eqb, filter, not, take}
use Rattle.sporc_play.proofs.forging.other_wraps.Given as goal

abbrev pub invariant-loop-wrap : goal.invariant-loop-wrap
invariant-loop-wrap l = l.kept.items ≡ filter (λ w. not (eqb w.member l.member)) (take l.wrap-index l.wraps)
