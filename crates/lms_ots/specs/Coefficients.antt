-- A string of bytes as a row of small numbers, and their checksum (RFC 8554, sections 3.1.3 and
-- 4.4).
use Rattle.std.specs.Prelude.{◌≡◌, ℕ, zero, suc, ◌+◌, ◌-◌, ◌*◌, ◌/◌, ◌%◌, ◌^◌, List, ◌++◌}
use Rattle.std.specs.Prelude.{slice_index, ◌⊎◌}
use Rattle.std.specs.Int.{w16, to_be_bytes}
use Rattle.lms_ots.specs.declared.ots_type.OtsType.{OtsType}
use Rattle.lms_ots.specs.OtsType.{width_of, checksum_shift_of}

-- a width that divides a byte
abbrev pub IsWidth : ℕ → Type 0
IsWidth w = (w ≡ 1) ⊎ (w ≡ 2) ⊎ (w ≡ 4) ⊎ (w ≡ 8)

-- coef(S, i, w): the i-th number of w bits, high bits first
unfoldable pub coef_of : List ℕ → ℕ → ℕ → ℕ
coef_of s i w = slice_index s (i * w / 8) / 2 ^ (8 - (w * (i % (8 / w)) + w)) % 2 ^ w

-- what the first n coefficients lack of the greatest, in sum
unfoldable pub shortfall : List ℕ → ℕ → ℕ → ℕ
shortfall s w zero = 0
shortfall s w (suc n) = shortfall s w n + (2 ^ w - 1 - coef_of s n w)

-- Cksm(S): what the coefficients of a digest lack of the greatest, in sum, shifted left
abbrev pub checksum_of : List ℕ → OtsType → ℕ
checksum_of digest t = shortfall digest (width_of t) (256 / width_of t) * 2 ^ checksum_shift_of t

-- Q || Cksm(Q), whose coefficients say how far each chain goes
abbrev pub with_checksum : List ℕ → OtsType → List ℕ
with_checksum digest t = digest ++ to_be_bytes w16 (checksum_of digest t)
