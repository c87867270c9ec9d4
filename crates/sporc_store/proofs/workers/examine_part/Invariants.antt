use Rattle.std.proofs.Common.{take}
use Rattle.sporc_store.proofs.Common.{AreExact}
use Rattle.sporc_store.proofs.workers.examine_part.Given as goal

abbrev pub invariant-loop-i : goal.invariant-loop-i
invariant-loop-i g l = AreExact l.verdicts.items (take l.i l.entries)
