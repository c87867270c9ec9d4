use Rattle.sporc_entry.proofs.Common.{AreSoFar, founder_at}
use Rattle.sporc_entry.proofs.genesis.read_founders.Given as goal

abbrev pub invariant-loop : goal.invariant-loop
invariant-loop l = AreSoFar founder_at (λ m. m.member) 1 l.count l.fn.cursor l.founders.items l.counter l.least l.cursor
