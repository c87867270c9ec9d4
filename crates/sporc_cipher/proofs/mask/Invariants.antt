use Rattle.std.proofs.Common.{◌≡◌, ◌*◌}
use Rattle.sporc_cipher.proofs.Stream.{masked_below, before_word}
use Rattle.sporc_cipher.proofs.mask.Given as goal

abbrev pub invariant-words : goal.invariant-words
invariant-words l = record {
  rng : l.rng ≡ before_word l.fn.key l.fn.stream l.i;
  bytes : l.bytes ≡ masked_below l.fn.key l.fn.stream (4 * l.i) l.fn.bytes;
}
