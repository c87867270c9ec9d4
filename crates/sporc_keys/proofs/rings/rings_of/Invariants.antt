use Rattle.std.proofs.Common.{◌≡◌, map, take}
use Rattle.sporc_keys.proofs.Common.{ring_of}
use Rattle.sporc_keys.proofs.rings.rings_of.Given as goal

abbrev pub invariant-loop-one : goal.invariant-loop-one
invariant-loop-one l = l.rings.items ≡ map (ring_of l.key l.shared) (take l.one-index l.named)
