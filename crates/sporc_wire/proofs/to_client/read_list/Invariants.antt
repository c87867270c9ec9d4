use Rattle.std.proofs.Common.{◌≡◌, ◌-◌, ◌^◌}
use Rattle.sporc_wire.proofs.Common.{counted_at, values_at, with_front}
use Rattle.sporc_wire.proofs.to_client.read_list.Given as goal

abbrev pub invariant-loop : goal.invariant-loop
invariant-loop l = with_front l.entries (values_at (counted_at (2 ^ 32 - 1)) (l.count - l.counter) l.cursor) ≡ values_at (counted_at (2 ^ 32 - 1)) l.count l.fn.cursor
