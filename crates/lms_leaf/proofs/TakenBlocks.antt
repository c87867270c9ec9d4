-- The number of bytes up to the last that is not zero.
use Rattle.std.proofs.Common.{◌≡◌, ◌≢◌, ◌⊎◌, ℕ, zero, suc, ◌+◌, ◌<◌, ◌≤◌, false, ◌&&◌, ◌==◌, if◌then◌else◌, List, [], ◌∷◌, ◌++◌, length, take, slice_index, refl, ap, ◌∙◌, inl, inr, arith, length-take-le}
use Rattle.std.proofs.lemmas.Bool.{ne_eqb}
use Rattle.std.proofs.Math.Dec.{eqb-suc-zero}
use Rattle.std.proofs.lemmas.List.{take_more}
use Rattle.lms_leaf.specs.LeafFile.{taken_blocks}

-- one byte before
taken_blocks-cons : (later byte : ℕ) → (if (later == 0) && (byte == 0) then 0 else later + 1) ≡ later + 1 ⊎ ((later ≡ 0) × (byte ≡ 0))
taken_blocks-cons zero zero = inr (refl, refl)
taken_blocks-cons zero (suc b) = inl (rw (eqb-suc-zero b) refl)
taken_blocks-cons (suc n) b = inl (rw (eqb-suc-zero n) refl)

-- a zero behind
pub taken_blocks-append-zero : (bytes : List ℕ) → taken_blocks (bytes ++ 0 ∷ []) ≡ taken_blocks bytes
taken_blocks-append-zero [] = refl
taken_blocks-append-zero (b ∷ bs) = rw (taken_blocks-append-zero bs) refl

-- another byte behind
pub taken_blocks-append-other : (bytes : List ℕ) (byte : ℕ) → taken_blocks (bytes ++ suc byte ∷ []) ≡ length bytes + 1
taken_blocks-append-other [] byte = rw (eqb-suc-zero byte) refl
taken_blocks-append-other (b ∷ bs) byte =
    let longer : (length bs + 1 == 0) ≡ false = ne_eqb (length bs + 1) 0 (λ e. absurd (omega arith)) in
    rw (taken_blocks-append-other bs byte, longer) (omega arith)

pub taken_blocks-≤ : (bytes : List ℕ) → taken_blocks bytes ≤ length bytes
taken_blocks-≤ [] = omega arith
taken_blocks-≤ (b ∷ bs) =
    let before = taken_blocks-≤ bs in
    elim (taken_blocks-cons (taken_blocks bs) b) [ inl e ↦ rw e (omega arith) | inr e ↦ rw (e.0, e.1) (omega arith) ]

-- a byte that is not zero is one of them
pub below-taken_blocks : (bytes : List ℕ) (i : ℕ) → slice_index bytes i ≢ 0 → i < taken_blocks bytes
below-taken_blocks [] i other = absurd (other refl)
below-taken_blocks (b ∷ bs) zero other =
    elim (taken_blocks-cons (taken_blocks bs) b) [ inl e ↦ rw e (omega arith) | inr e ↦ absurd (other e.1) ]
below-taken_blocks (b ∷ bs) (suc i) other =
    let before = below-taken_blocks bs i other in
    elim (taken_blocks-cons (taken_blocks bs) b) [ inl e ↦ rw e (omega arith) | inr e ↦ absurd (omega (arith, e.0, before)) ]

-- the last of them is not zero
pub last_taken : (bytes : List ℕ) (n : ℕ) → taken_blocks bytes ≡ n + 1 → slice_index bytes n ≢ 0
last_taken [] n is = absurd (omega (arith, is))
last_taken (b ∷ bs) n is = go (taken_blocks bs) b refl refl is (λ m more. last_taken bs m more)
  where
    go : (later byte : ℕ) → taken_blocks bs ≡ later → b ≡ byte → (if (later == 0) && (byte == 0) then 0 else later + 1) ≡ n + 1
        → ((m : ℕ) → taken_blocks bs ≡ m + 1 → slice_index bs m ≢ 0) → slice_index (b ∷ bs) n ≢ 0
    go zero zero more here is rest = absurd (omega (arith, is))
    go zero (suc k) more here is rest =
        let first : n ≡ 0 = omega (arith, rw (eqb-suc-zero k) at is) in
        rw first (λ none. absurd (omega (arith, here, none)))
    go (suc m) byte more here is rest =
        let next : n ≡ suc m = omega (arith, rw (eqb-suc-zero m) at is) in
        rw next (rest m (omega (arith, more)))

-- and behind them are zeros
pub zero-from-taken_blocks : (bytes : List ℕ) (i : ℕ) → taken_blocks bytes ≤ i → slice_index bytes i ≡ 0
zero-from-taken_blocks [] i h = refl
zero-from-taken_blocks (b ∷ bs) zero h =
    elim (taken_blocks-cons (taken_blocks bs) b) [ inl e ↦ absurd (omega (arith, rw e at h)) | inr e ↦ e.1 ]
zero-from-taken_blocks (b ∷ bs) (suc i) h =
    elim (taken_blocks-cons (taken_blocks bs) b) [
      | inl e ↦ zero-from-taken_blocks bs i (omega (arith, rw e at h))
      | inr e ↦ zero-from-taken_blocks bs i (omega (arith, e.0))
    ]

-- over one byte more
pub taken_blocks-zero_more : (bytes : List ℕ) (i : ℕ) → i < length bytes → slice_index bytes i ≡ 0
    → taken_blocks (take (i + 1) bytes) ≡ taken_blocks (take i bytes)
taken_blocks-zero_more bytes i h is = rw (take_more bytes i 0 h, is) (taken_blocks-append-zero (take i bytes))

pub taken_blocks-other_more : (bytes : List ℕ) (i : ℕ) → i < length bytes → slice_index bytes i ≢ 0
    → taken_blocks (take (i + 1) bytes) ≡ i + 1
taken_blocks-other_more bytes i h other = rw (take_more bytes i 0 h) (more (slice_index bytes i) other)
  where
    more : (byte : ℕ) → byte ≢ 0 → taken_blocks (take i bytes ++ byte ∷ []) ≡ i + 1
    more zero other = absurd (other refl)
    more (suc byte) other = taken_blocks-append-other (take i bytes) byte ∙ ap (λ (n : ℕ). n + 1) (length-take-le i bytes (omega arith))
