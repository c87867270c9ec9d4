-- What stands at the first_frame of a stream.
use Rattle.std.proofs.Common.{◌≡◌, ℕ, ◌^◌, ◌<◌, ◌≤◌, List, ◌++◌, length, take, drop, refl, ap, ◌∙◌, arith, length-append}
use Rattle.sporc_wire.proofs.Common.{lt-ltb, le-ltb, take_at, drop_at, w32, to_be_bytes, from_be_bytes, MAX_BODY, partial, too_long, whole, from_be_bytes-to_be_bytes_4}
use Rattle.sporc_wire.specs.Stream.{frame_of_len, first_frame, frame}

pub frame_of_len-big : (len : ℕ) (xs : List ℕ) → MAX_BODY < len → frame_of_len len xs ≡ too_long len
unfolding frame_of_len
frame_of_len-big len xs big = rw (lt-ltb MAX_BODY len big) refl

pub frame_of_len-short : (len : ℕ) (xs : List ℕ) → len ≤ MAX_BODY → length xs < len → frame_of_len len xs ≡ partial
unfolding frame_of_len
frame_of_len-short len xs small short = rw (le-ltb MAX_BODY len small, lt-ltb (length xs) len short) refl

pub frame_of_len-whole : (len : ℕ) (xs : List ℕ) → len ≤ MAX_BODY → len ≤ length xs → frame_of_len len xs ≡ whole (take len xs) (drop len xs)
unfolding frame_of_len
frame_of_len-whole len xs small long = rw (le-ltb MAX_BODY len small, le-ltb (length xs) len long) refl

pub first_frame-short : (xs : List ℕ) → length xs < 4 → first_frame xs ≡ partial
unfolding first_frame
first_frame-short xs short = rw (lt-ltb (length xs) 4 short) refl

pub first_frame-long : (xs : List ℕ) → 4 ≤ length xs → first_frame xs ≡ frame_of_len (from_be_bytes w32 (take 4 xs)) (drop 4 xs)
unfolding first_frame
first_frame-long xs long = rw (le-ltb (length xs) 4 long) refl

-- a length, and what follows it
pub first_frame-length : (len : ℕ) (xs : List ℕ) → len < 2 ^ 32 → first_frame (to_be_bytes w32 len ++ xs) ≡ frame_of_len len xs
first_frame-length len xs fits =
    let head : List ℕ = to_be_bytes w32 len in
    let long : 4 ≤ length (to_be_bytes w32 len ++ xs) = omega (arith, length-append (to_be_bytes w32 len) xs) in
    first_frame-long (to_be_bytes w32 len ++ xs) long ∙ ap (λ n. frame_of_len n xs) (from_be_bytes-to_be_bytes_4 len fits)

-- a frame, and what follows it
pub first_frame-frame : (body rest : List ℕ) → length body ≤ MAX_BODY → first_frame (frame body ++ rest) ≡ whole body rest
first_frame-frame body rest small =
    first_frame-length (length body) (body ++ rest) (omega arith)
    ∙ frame_of_len-whole (length body) (body ++ rest) small (omega (arith, length-append body rest))
    ∙ rw (take_at body rest (length body) refl, drop_at body rest (length body) refl) refl
