use Rattle.std.proofs.Common.{◌≡◌}
use Rattle.sporc_store.proofs.foretelling.foretell.Given as goal

abbrev pub invariant-loop-i : goal.invariant-loop-i
invariant-loop-i l = l.entries ≡ l.fn.entries
