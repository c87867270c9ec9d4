-- The mask of a byte string: exclusive or with the stream of a key and a stream number.
use Rattle.std.specs.Prelude.{ℕ, ◌+◌, ◌/◌, ◌%◌, List, [], ◌∷◌, bit_xor, slice_index}
use Rattle.std.specs.Int.{w32, to_le_bytes}
use Rattle.sporc_cipher.specs.ChaCha20.{block_word}

-- the byte of the stream at a place: a block has 64 bytes, and each of its words 4, low byte first
unfoldable pub stream_byte : List ℕ → ℕ → ℕ → ℕ
stream_byte key stream place =
    slice_index (to_le_bytes w32 (block_word key stream (place / 64) (place % 64 / 4))) (place % 4)

-- the bytes from a place on, masked
unfoldable pub mask_from : List ℕ → ℕ → ℕ → List ℕ → List ℕ
mask_from key stream place [] = []
mask_from key stream place (b ∷ bs) =
    bit_xor b (stream_byte key stream place) ∷ mask_from key stream (place + 1) bs

-- the bytes, masked from the first byte of the stream on
abbrev pub mask_of : List ℕ → ℕ → List ℕ → List ℕ
mask_of key stream bytes = mask_from key stream 0 bytes
