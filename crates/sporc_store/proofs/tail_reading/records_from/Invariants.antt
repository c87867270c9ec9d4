use Rattle.std.proofs.Common.{◌≡◌, ◌+◌, ◌-◌, ◌≤◌, length, map}
use Rattle.sporc_store.proofs.Common.{records_behind, taken_from}
use Rattle.sporc_store.proofs.tail_reading.records_from.Given as goal

abbrev pub invariant-loop-n : goal.invariant-loop-n
invariant-loop-n l = record {
  so_far : taken_from l.tail.entries.items (map (λ e. e.items) l.ahead) (l.first + l.n) l.cursor (length l.fn.cursor.rest - l.n)
      ≡ records_behind (length l.fn.cursor.rest) (map (λ e. e.items) l.fn.ahead) l.first l.fn.cursor;
  whole : l.tail.whole ≡ l.cursor.at;
  end : l.cursor.at + length l.cursor.rest ≡ l.fn.cursor.at + length l.fn.cursor.rest;
  few : length l.tail.entries.items ≤ l.n;
}
