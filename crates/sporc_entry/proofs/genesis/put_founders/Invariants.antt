use Rattle.std.proofs.Common.{◌≡◌, ◌++◌, take}
use Rattle.sporc_entry.proofs.Common.{flat_map, founder_bytes}
use Rattle.sporc_entry.proofs.genesis.put_founders.Given as goal

abbrev pub invariant-loop-founder : goal.invariant-loop-founder
invariant-loop-founder l = l.out ≡ l.initial.out ++ flat_map founder_bytes (take l.founder-index l.founders)
