-- Worked examples of the definitions.
use Rattle.std.proofs.Common.{◌≡◌, ◌∷◌, [], replicate, refl}
use Rattle.lms_ots.specs.declared.ots_type.OtsType.TheVariants.{W1, W2, W4, W8}
use Rattle.lms_ots.specs.OtsType.{ots_signature_len_of}
use Rattle.lms_ots.specs.Coefficients.{coef_of, shortfall, checksum_of}

-- RFC 8554, section 3.1.3: S is 0x1234
last_bit : coef_of (0x12 ∷ 0x34 ∷ []) 7 1 ≡ 0
unfolding coef_of
last_bit = refl

first_half_byte : coef_of (0x12 ∷ 0x34 ∷ []) 0 4 ≡ 1
unfolding coef_of
first_half_byte = refl

second_byte : coef_of (0x12 ∷ 0x34 ∷ []) 1 8 ≡ 0x34
unfolding coef_of
second_byte = refl

-- the sums are 32 * 255, 64 * 15 and 0, and the shifts 0, 4 and 7
checksum_of_zeros : checksum_of (replicate 32 0) W8 ≡ 8160
unfolding coef_of shortfall
checksum_of_zeros = refl

shifted_checksum_of_zeros : checksum_of (replicate 32 0) W4 ≡ 15360
unfolding coef_of shortfall
shifted_checksum_of_zeros = refl

least_checksum : checksum_of (replicate 32 0xff) W1 ≡ 0
unfolding coef_of shortfall
least_checksum = refl

-- 4 bytes of type code, 32 of randomizer and 32 a part
signature_lengths : (ots_signature_len_of W1 ≡ 8516) × (ots_signature_len_of W2 ≡ 4292) × (ots_signature_len_of W4 ≡ 2180) × (ots_signature_len_of W8 ≡ 1124)
signature_lengths = (refl, refl, refl, refl)
