-- The stream of the definitions is that of the generator, and masks by its bytes.
use Rattle.std.proofs.Common.{◌≡◌, ℕ, zero, suc, ◌+◌, ◌*◌, ◌/◌, ◌%◌, ◌^◌, ◌<◌, ◌≤◌, List, [], ◌∷◌, ◌++◌, length, get_or, slice_index, bit_xor, refl, ap, sym, ◌∙◌, arith, take, drop}
use Rattle.std.specs.Int.{w32, to_le_bytes}
use Rattle.std.specs.Int.Bits.{xor_self, xor_assoc, xor_zero_r}
use Rattle.rand_core.specs.Steps.{u32_at}
use Rattle.rand_chacha.specs.Block as generator
use Rattle.rand_chacha.specs.ChaCha.{ChaCha, key_of, word_at, next_word}
use Rattle.std.proofs.Common.{take-add, length-take-le, length-drop, append_assoc, append-nil, EachIndex}
use Rattle.std.proofs.Math.Seq.{take-append_seam, drop-append_seam, drop-drop, take-length, drop-length}
use borrow.Rule.Slice.PartMut.{mid_of, put_mid}
use Rattle.std.proofs.lemmas.List.{ext_get_or}
use Rattle.sporc_cipher.specs.ChaCha20.{quarter_round, column_round, diagonal_round, rounds, key_word, first_state, block_word}
use Rattle.sporc_cipher.specs.Mask.{stream_byte, mask_from, mask_of}

column_round_is : (x : List ℕ) → column_round x ≡ generator.column_round x
unfolding column_round generator.column_round quarter_round generator.quarter_round
column_round_is x = refl

diagonal_round_is : (x : List ℕ) → diagonal_round x ≡ generator.diagonal_round x
unfolding diagonal_round generator.diagonal_round quarter_round generator.quarter_round
diagonal_round_is x = refl

rounds_are : (n : ℕ) (x : List ℕ) → rounds n x ≡ generator.double_rounds n x
unfolding rounds generator.double_rounds
rounds_are zero x = refl
rounds_are (suc n) x = rw (rounds_are n x, column_round_is, diagonal_round_is) refl

first_state_is : (key : List ℕ) (stream block : ℕ) → first_state key stream block ≡ generator.initial_state (key_of key) block stream
unfolding first_state key_word u32_at
first_state_is key stream block = refl

block_word_is : (key : List ℕ) (stream block i : ℕ) → block_word key stream block i ≡ generator.block_word 10 (key_of key) block stream i
unfolding block_word generator.block_word
block_word_is key stream block i = rw (rounds_are, first_state_is) refl

-- byte k of word i of the generator
stream_byte_is : (key : List ℕ) (stream i k : ℕ) → k < 4
    → stream_byte key stream (4 * i + k) ≡ slice_index (to_le_bytes w32 (word_at 10 (key_of key) stream i)) k
unfolding stream_byte
stream_byte_is key stream i k h =
    let block : (4 * i + k) / 64 ≡ i / 16 = omega arith in
    let word : (4 * i + k) % 64 / 4 ≡ i % 16 = omega arith in
    let byte : (4 * i + k) % 4 ≡ k = omega arith in
    rw (block, word, byte, block_word_is) refl

pub length-mask_from : (key : List ℕ) (stream place : ℕ) (bs : List ℕ) → length (mask_from key stream place bs) ≡ length bs
unfolding mask_from
length-mask_from key stream place [] = refl
length-mask_from key stream place (b ∷ bs) = ap suc (length-mask_from key stream (place + 1) bs)

-- a mask on its own mask
pub mask_from-mask_from : (key : List ℕ) (stream place : ℕ) (bs : List ℕ) → mask_from key stream place (mask_from key stream place bs) ≡ bs
unfolding mask_from
mask_from-mask_from key stream place [] = refl
mask_from-mask_from key stream place (b ∷ bs) =
    let s = stream_byte key stream place in
    let back : bit_xor (bit_xor b s) s ≡ b = rw (xor_assoc b s s, xor_self s) (xor_zero_r b) in
    rw (back, mask_from-mask_from key stream (place + 1) bs) refl

pub mask_from-append : (key : List ℕ) (stream place : ℕ) (xs ys : List ℕ)
    → mask_from key stream place (xs ++ ys) ≡ mask_from key stream place xs ++ mask_from key stream (place + length xs) ys
unfolding mask_from
mask_from-append key stream place [] ys = let e : place + 0 ≡ place = omega arith in rw e refl
mask_from-append key stream place (x ∷ xs) ys =
    let e : place + 1 + length xs ≡ place + suc (length xs) = omega arith in
    rw (mask_from-append key stream (place + 1) xs ys, e) refl

get_or-mask_from : (key : List ℕ) (stream place : ℕ) (bs : List ℕ) (k : ℕ) → k < length bs
    → get_or (mask_from key stream place bs) k 0 ≡ bit_xor (get_or bs k 0) (stream_byte key stream (place + k))
unfolding mask_from
get_or-mask_from key stream place [] k h = absurd (omega arith)
get_or-mask_from key stream place (b ∷ bs) zero h = let e : place + 0 ≡ place = omega arith in rw e refl
get_or-mask_from key stream place (b ∷ bs) (suc k) h =
    let e : place + 1 + k ≡ place + suc k = omega arith in
    let below : k < length bs = omega arith in
    get_or-mask_from key stream (place + 1) bs k below ∙ ap (λ (p : ℕ). bit_xor (get_or bs k 0) (stream_byte key stream p)) e

-- up to four bytes are masked by the bytes of word i
mask_from-word : (key : List ℕ) (stream i word : ℕ) (old new : List ℕ) → word ≡ word_at 10 (key_of key) stream i
    → length new ≡ length old → length old ≤ 4
    → EachIndex old (λ k. slice_index new k ≡ bit_xor (slice_index old k) (slice_index (to_le_bytes w32 word) k))
    → new ≡ mask_from key stream (4 * i) old
mask_from-word key stream i word old new is len few each =
    ext_get_or 0 new (mask_from key stream (4 * i) old) (len ∙ sym (length-mask_from key stream (4 * i) old)) (λ k h.
    let below : k < length old = omega arith in
    let small : k < 4 = omega arith in
    each k below ∙ ap (λ (w : ℕ). bit_xor (slice_index old k) (slice_index (to_le_bytes w32 w) k)) is
    ∙ sym (get_or-mask_from key stream (4 * i) old k below ∙ ap (bit_xor (get_or old k 0)) (stream_byte_is key stream i k small)))

-- the bytes below a place are masked, and those from there on are as they were
abbrev pub masked_below : List ℕ → ℕ → ℕ → List ℕ → List ℕ
masked_below key stream place first = mask_of key stream (take place first) ++ drop place first

-- the next piece masked in its place
pub masked_below-piece : (key : List ℕ) (stream place k : ℕ) (first bytes piece : List ℕ) → place + k ≤ length first
    → bytes ≡ masked_below key stream place first → piece ≡ mask_from key stream place (mid_of place k bytes)
    → put_mid place k bytes piece ≡ masked_below key stream (place + k) first
masked_below-piece key stream place k first bytes piece fits before done =
    let len : length (take place first) ≡ place = length-take-le place first (omega arith) in
    let front = mask_of key stream (take place first) in
    let len_front : length front ≡ place = length-mask_from key stream 0 (take place first) ∙ len in
    let taken : take place bytes ≡ front = rw before (ap (λ (n : ℕ). take n (front ++ drop place first)) (sym len_front) ∙ take-append_seam front (drop place first)) in
    let dropped : drop place bytes ≡ drop place first = rw before (ap (λ (n : ℕ). drop n (front ++ drop place first)) (sym len_front) ∙ drop-append_seam front (drop place first)) in
    let place_is : 0 + length (take place first) ≡ place = omega arith in
    let masked : mask_of key stream (take (place + k) first) ≡ front ++ mask_from key stream place (take k (drop place first)) =
    rw (take-add place k first, mask_from-append key stream 0 (take place first) (take k (drop place first)), place_is) refl in
    rw (masked, done, taken, dropped, drop-drop) (sym (append_assoc front _ _))

-- all of them are
pub masked_below-all : (key : List ℕ) (stream place : ℕ) (first : List ℕ) → place ≡ length first
    → masked_below key stream place first ≡ mask_of key stream first
masked_below-all key stream place first all = rw (all, take-length, drop-length) (append-nil (mask_of key stream first))

-- the generator of a key and a stream, before its word i
abbrev pub before_word : List ℕ → ℕ → ℕ → ChaCha
before_word key stream i = record { key = key_of key; stream = stream; word_pos = i }

-- the word that it draws there, and where it is then
pub drawn : (key : List ℕ) (stream i : ℕ) (old new : ChaCha) (word : ℕ) → old ≡ before_word key stream i → i < 2 ^ 62
    → (word, new) ≡ next_word 10 old
    → (word ≡ word_at 10 (key_of key) stream i) × (new ≡ before_word key stream (i + 1))
drawn key stream i old new word before small draws =
    let e = draws ∙ ap (next_word 10) before in
    let next : (i + 1) % 2 ^ 68 ≡ i + 1 = omega arith in
    (ap (λ (p : ℕ × ChaCha). p.0) e, ap (λ (p : ℕ × ChaCha). p.1) e ∙ ap (before_word key stream) next)

-- a piece of up to four bytes masked in its place, by word i
pub masked_below-word : (key : List ℕ) (stream i k word : ℕ) (first bytes piece : List ℕ) → 4 * i + k ≤ length first → k ≤ 4
    → bytes ≡ masked_below key stream (4 * i) first → length bytes ≡ length first → word ≡ word_at 10 (key_of key) stream i
    → length piece ≡ length (mid_of (4 * i) k bytes)
    → EachIndex (mid_of (4 * i) k bytes) (λ n.
    slice_index piece n ≡ bit_xor (slice_index (mid_of (4 * i) k bytes) n) (slice_index (to_le_bytes w32 word) n))
    → put_mid (4 * i) k bytes piece ≡ masked_below key stream (4 * i + k) first
masked_below-word key stream i k word first bytes piece fits few before len is same each =
    let part : length (mid_of (4 * i) k bytes) ≡ k = length-take-le k (drop (4 * i) bytes) (omega (arith, length-drop (4 * i) bytes)) in
    masked_below-piece key stream (4 * i) k first bytes piece fits before
    (mask_from-word key stream i word (mid_of (4 * i) k bytes) piece is same (omega arith) each)
