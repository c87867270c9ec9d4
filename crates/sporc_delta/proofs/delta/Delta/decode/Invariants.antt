use Rattle.std.proofs.Common.{◌≡◌, ◌+◌, ◌*◌, ◌≤◌, length}
use Rattle.sporc_delta.proofs.Common.{MAX_COUNT, base_len, out_len, parts_at, read_delta}
use Rattle.sporc_delta.proofs.Decoding.{with_front}
use Rattle.sporc_delta.proofs.delta.Delta.decode.Given as goal

abbrev pub invariant-loop-cursor : goal.invariant-loop-cursor
invariant-loop-cursor l = record {
  so_far : with_front l.delta (parts_at (length l.cursor.rest) l.before l.cursor) ≡ read_delta l.bytes;
  base : 9 * base_len l.delta + MAX_COUNT * length l.cursor.rest ≤ MAX_COUNT * length l.bytes;
  out : 9 * out_len l.delta + MAX_COUNT * length l.cursor.rest ≤ MAX_COUNT * length l.bytes;
}

abbrev pub decreases-loop-cursor : goal.decreases-loop-cursor
decreases-loop-cursor l = length l.cursor.rest
