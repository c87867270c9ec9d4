use Rattle.std.proofs.Common.{◌≡◌, ◌≤◌, ◌-◌, length}
use Rattle.sporc_store.proofs.Common.{entries_at}
use Rattle.sporc_store.proofs.Taking.{read_from}
use Rattle.sporc_store.proofs.reading.counted_entries.Given as goal

abbrev pub invariant-loop : goal.invariant-loop
invariant-loop l = record {
  few : length l.entries.items ≤ l.counter;
  so_far : read_from l.entries.items (l.count - l.counter) l.cursor ≡ entries_at l.count l.fn.cursor;
}
