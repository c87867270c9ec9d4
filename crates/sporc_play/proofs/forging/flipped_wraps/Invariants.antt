use Rattle.std.proofs.Common.{◌≡◌, map, take}
use Rattle.sporc_play.proofs.Common.{wrap_flipped}
use Rattle.sporc_play.proofs.forging.flipped_wraps.Given as goal

abbrev pub invariant-loop-wrap : goal.invariant-loop-wrap
invariant-loop-wrap l = l.kept.items ≡ map (wrap_flipped l.member) (take l.wrap-index l.wraps)
