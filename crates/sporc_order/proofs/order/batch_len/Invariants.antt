use Rattle.std.proofs.Common.{◌≡◌, ◌≤◌, ◌-◌, ◌++◌, take, drop, map}
use Rattle.sporc_order.proofs.Common.{MAX_PULLED, MAX_PULLED_BYTES, longest_batch}
use Rattle.sporc_order.proofs.Batches.{bytes_of}
use Rattle.sporc_order.proofs.order.batch_len.Given as goal

abbrev pub invariant-loop-i : goal.invariant-loop-i
invariant-loop-i l = (l.i ≤ MAX_PULLED) × (longest_batch MAX_PULLED MAX_PULLED_BYTES (map bytes_of l.entries) ≡ take l.i (map bytes_of l.entries) ++ longest_batch (MAX_PULLED - l.i) l.room (drop l.i (map bytes_of l.entries)))
