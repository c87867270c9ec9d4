use Rattle.sporc_keys.proofs.Common.{pair_at, AreSoFar}
use Rattle.sporc_keys.proofs.ring_reading.read_pairs.Given as goal

abbrev pub invariant-loop : goal.invariant-loop
invariant-loop l = AreSoFar pair_at (λ p. p.member) 0 l.count l.fn.cursor l.pairs.items l.counter l.least l.cursor
