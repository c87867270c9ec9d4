-- The block function of ChaCha20 (RFC 8439, sections 2.1 to 2.3), in the cipher's original layout:
-- 64 bits of block number and 64 bits of stream number, where the RFC has 32 bits of counter and 96
-- of nonce. A word is a number below 2 ^ 32, and a state is a list of 16 words.
use Rattle.std.specs.Prelude.{ℕ, zero, suc, ◌+◌, ◌*◌, ◌/◌, ◌%◌, ◌^◌, List, [], ◌∷◌, bit_xor}
use Rattle.std.specs.Prelude.{slice_index}
use Rattle.std.specs.Int.{w32, rotate_left}

-- the sum of two words, with the carry dropped
abbrev pub add32 : ℕ → ℕ → ℕ
add32 x y = (x + y) % 2 ^ 32

-- x ^= y; x <<<= k
abbrev pub xor_rotate : ℕ → ℕ → ℕ → ℕ
xor_rotate x y k = rotate_left w32 (bit_xor x y) k

-- the quarter round (section 2.1)
unfoldable pub quarter_round : ℕ → ℕ → ℕ → ℕ → ℕ × ℕ × ℕ × ℕ
quarter_round a b c d =
    let a1 = add32 a b in
    let d1 = xor_rotate d a1 16 in
    let c1 = add32 c d1 in
    let b1 = xor_rotate b c1 12 in
    let a2 = add32 a1 b1 in
    let d2 = xor_rotate d1 a2 8 in
    let c2 = add32 c1 d2 in
    let b2 = xor_rotate b1 c2 7 in
    (a2, b2, c2, d2)

-- the quarter round on four words of a state (section 2.2)
abbrev pub quarter_at : List ℕ → ℕ → ℕ → ℕ → ℕ → ℕ × ℕ × ℕ × ℕ
quarter_at x a b c d =
    quarter_round (slice_index x a) (slice_index x b) (slice_index x c) (slice_index x d)

-- the quarter round on each column of the state, read as four rows of four words
unfoldable pub column_round : List ℕ → List ℕ
column_round x =
    let q0 = quarter_at x 0 4 8 12 in
    let q1 = quarter_at x 1 5 9 13 in
    let q2 = quarter_at x 2 6 10 14 in
    let q3 = quarter_at x 3 7 11 15 in
    q0.0 ∷ q1.0 ∷ q2.0 ∷ q3.0 ∷ q0.1 ∷ q1.1 ∷ q2.1 ∷ q3.1
    ∷ q0.2 ∷ q1.2 ∷ q2.2 ∷ q3.2 ∷ q0.3 ∷ q1.3 ∷ q2.3 ∷ q3.3 ∷ []

-- the quarter round on each diagonal
unfoldable pub diagonal_round : List ℕ → List ℕ
diagonal_round x =
    let q0 = quarter_at x 0 5 10 15 in
    let q1 = quarter_at x 1 6 11 12 in
    let q2 = quarter_at x 2 7 8 13 in
    let q3 = quarter_at x 3 4 9 14 in
    q0.0 ∷ q1.0 ∷ q2.0 ∷ q3.0 ∷ q3.1 ∷ q0.1 ∷ q1.1 ∷ q2.1
    ∷ q2.2 ∷ q3.2 ∷ q0.2 ∷ q1.2 ∷ q1.3 ∷ q2.3 ∷ q3.3 ∷ q0.3 ∷ []

-- the state after 2 * n rounds
unfoldable pub rounds : ℕ → List ℕ → List ℕ
rounds zero x = x
rounds (suc n) x = diagonal_round (column_round (rounds n x))

-- word i of a key's bytes, low byte first
unfoldable pub key_word : List ℕ → ℕ → ℕ
key_word key i =
    slice_index key (4 * i) + slice_index key (4 * i + 1) * 2 ^ 8
    + slice_index key (4 * i + 2) * 2 ^ 16 + slice_index key (4 * i + 3) * 2 ^ 24

-- the constants, the eight words of the key, the block number and the stream number, low words
-- first
unfoldable pub first_state : List ℕ → ℕ → ℕ → List ℕ
first_state key stream block =
    0x61707865 ∷ 0x3320646e ∷ 0x79622d32 ∷ 0x6b206574
    ∷ key_word key 0 ∷ key_word key 1 ∷ key_word key 2 ∷ key_word key 3
    ∷ key_word key 4 ∷ key_word key 5 ∷ key_word key 6 ∷ key_word key 7
    ∷ block % 2 ^ 32 ∷ block / 2 ^ 32 ∷ stream % 2 ^ 32 ∷ stream / 2 ^ 32 ∷ []

-- word i of a block of the stream: that of the state after 20 rounds, added to that of the first
-- state
unfoldable pub block_word : List ℕ → ℕ → ℕ → ℕ → ℕ
block_word key stream block i =
    let x = first_state key stream block in
    add32 (slice_index (rounds 10 x) i) (slice_index x i)
