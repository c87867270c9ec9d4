use Rattle.std.proofs.Common.{◌≡◌, ◌-◌}
use Rattle.sporc_store.proofs.Common.{entries_at}
use Rattle.sporc_store.proofs.reading.stop_of_entries.Given as goal

abbrev pub invariant-loop : goal.invariant-loop
invariant-loop l = (entries_at (l.count - l.counter) l.cursor).stop ≡ (entries_at l.count l.fn.cursor).stop
