use Rattle.std.proofs.Common.{◌≡◌, ℕ, ◌<◌, ◌≤◌, slice_index, bit_xor}
use Rattle.sporc_cipher.proofs.mask_piece.Given as goal

abbrev pub invariant-bytes : goal.invariant-bytes
invariant-bytes l = record {
  masked : (k : ℕ) → k < l.i → slice_index l.piece k ≡ bit_xor (slice_index l.fn.piece k) (slice_index l.word k);
  left : (k : ℕ) → l.i ≤ k → slice_index l.piece k ≡ slice_index l.fn.piece k;
}
