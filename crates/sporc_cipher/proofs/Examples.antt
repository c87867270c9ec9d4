-- Values that RFC 8439 gives for the definitions.
use Rattle.std.proofs.Common.{◌≡◌, replicate, refl}
use Rattle.sporc_cipher.specs.ChaCha20.{quarter_round, column_round, diagonal_round, rounds, key_word, first_state, block_word}

-- section 2.1.1
pub quarter_round_example : quarter_round 0x11111111 0x01020304 0x9b8d6f43 0x01234567 ≡ (0xea2a92f4, 0xcb1cf8ce, 0x4581472e, 0x5881c4bb)
unfolding quarter_round
quarter_round_example = refl

-- appendix A.1, test vectors 1 and 2: the zero key, and the first word of each of its first two blocks
pub first_words_example : (block_word (replicate 32 0) 0 0 0 ≡ 0xade0b876) × (block_word (replicate 32 0) 0 1 0 ≡ 0xbee7079f)
unfolding quarter_round column_round diagonal_round rounds key_word first_state block_word
first_words_example = (refl, refl)
