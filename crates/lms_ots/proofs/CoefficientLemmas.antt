-- The coefficients of a string, and their checksum.
use Rattle.std.proofs.Common.{◌≡◌, ℕ, zero, suc, ◌+◌, ◌-◌, ◌*◌, ◌/◌, ◌%◌, ◌^◌, ◌<◌, ◌≤◌, inl, inr, List, get_or, bit_and, refl, subst, sym, arith, mod-eq_of_lt}
use Rattle.std.proofs.lemmas.Nat.{and_mask, mod_below, pow_pos}
use Rattle.lms_ots.specs.declared.ots_type.OtsType.{OtsType}
use Rattle.lms_ots.specs.declared.ots_type.OtsType.TheVariants.{W1, W2, W4, W8}
use Rattle.lms_ots.specs.OtsType.{width_of, checksum_shift_of}
use Rattle.lms_ots.specs.Coefficients.{IsWidth, coef_of, shortfall}

-- what holds of each width
each_width : (P : ℕ → Type 0) → P 1 → P 2 → P 4 → P 8 → (w : ℕ) → IsWidth w → P w
each_width P a b c d w (inl e) = subst P (sym e) a
each_width P a b c d w (inr (inl e)) = subst P (sym e) b
each_width P a b c d w (inr (inr (inl e))) = subst P (sym e) c
each_width P a b c d w (inr (inr (inr e))) = subst P (sym e) d

-- a coefficient by a shift and a mask
pub coef_is : (s : List ℕ) (i w : ℕ) → IsWidth w
    → bit_and (get_or s (i / (8 / w)) 0 / 2 ^ (8 - (w * (i % (8 / w)) + w))) (1 * 2 ^ w % 65536 - 1) ≡ coef_of s i w
unfolding coef_of
coef_is s i =
    each_width (λ w. bit_and (get_or s (i / (8 / w)) 0 / 2 ^ (8 - (w * (i % (8 / w)) + w))) (1 * 2 ^ w % 65536 - 1) ≡ coef_of s i w)
    (let e : i / 8 ≡ i * 1 / 8 = omega arith in rw e (and_mask _ 1))
    (let e : i / 4 ≡ i * 2 / 8 = omega arith in rw e (and_mask _ 2))
    (let e : i / 2 ≡ i * 4 / 8 = omega arith in rw e (and_mask _ 4))
    (let e : i / 1 ≡ i * 8 / 8 = omega arith in rw e (and_mask _ 8))

-- a coefficient is below 2 ^ w
pub coef_below : (s : List ℕ) (i w : ℕ) → coef_of s i w < 2 ^ w
unfolding coef_of
coef_below s i w = mod_below _ (2 ^ w) (pow_pos w)

-- the sum is at most that many times the greatest coefficient
shortfall_le : (s : List ℕ) (w greatest n : ℕ) → 2 ^ w - 1 ≤ greatest → shortfall s w n ≤ greatest * n
unfolding shortfall
shortfall_le s w greatest zero h = omega arith
shortfall_le s w greatest (suc n) h = omega (arith, shortfall_le s w greatest n h)

-- the sum fits, also where it is shifted
abbrev Fits : OtsType → ℕ → Type 0
Fits t sum = (sum ≤ 8160) × (sum * 2 ^ checksum_shift_of t < 65536)

pub shortfall_fits : (t : OtsType) (s : List ℕ) (n : ℕ) → n ≤ 256 / width_of t → Fits t (shortfall s (width_of t) n)
shortfall_fits W1 s n h = let b = shortfall_le s 1 1 n (omega arith) in (omega (arith, b), omega (arith, b))
shortfall_fits W2 s n h = let b = shortfall_le s 2 3 n (omega arith) in (omega (arith, b), omega (arith, b))
shortfall_fits W4 s n h = let b = shortfall_le s 4 15 n (omega arith) in (omega (arith, b), omega (arith, b))
shortfall_fits W8 s n h = let b = shortfall_le s 8 255 n (omega arith) in (omega (arith, b), omega (arith, b))

-- no coefficient
pub shortfall_none : (s : List ℕ) (w : ℕ) → 0 ≡ shortfall s w 0
unfolding shortfall
shortfall_none s w = refl

-- one more coefficient
pub shortfall_more : (t : OtsType) (s : List ℕ) (i sum w coef lack : ℕ) → w ≡ width_of t → sum ≡ shortfall s (width_of t) i
    → coef ≡ coef_of s i w → lack ≡ 2 ^ width_of t - 1 - coef → sum + lack ≡ shortfall s (width_of t) (i + 1)
unfolding shortfall
shortfall_more t s i sum w coef lack width before part here =
    let more : i + 1 ≡ suc i = omega arith in
    rw (more, here, part, width, before) refl

-- the whole sum, shifted
pub shifted_is : (t : OtsType) (s : List ℕ) (n sum shift : ℕ) → n ≤ 256 / width_of t → 256 / width_of t ≤ n
    → sum ≡ shortfall s (width_of t) n → shift ≡ checksum_shift_of t
    → sum * 2 ^ shift % 65536 ≡ shortfall s (width_of t) (256 / width_of t) * 2 ^ checksum_shift_of t
shifted_is t s n sum shift low high whole e =
    let same : n ≡ 256 / width_of t = omega arith in
    let fits = (shortfall_fits t s n low).1 in
    rw (e, whole, ← same) (mod-eq_of_lt fits)
