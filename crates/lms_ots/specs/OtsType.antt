-- The table of LM-OTS types over SHA-256 with n = 32 (RFC 8554, section 4.1, table 1).
use Rattle.std.specs.Prelude.{ℕ, ◌+◌, ◌*◌, ◌==◌, [], ◌∷◌, Option, find}
use Rattle.lms_ots.specs.declared.ots_type.OtsType.{OtsType}
use Rattle.lms_ots.specs.declared.ots_type.OtsType.TheVariants.{W1, W2, W4, W8}

-- the type code
abbrev pub ots_code_of : OtsType → ℕ
ots_code_of W1 = 1
ots_code_of W2 = 2
ots_code_of W4 = 3
ots_code_of W8 = 4

-- w, the bits of a coefficient
abbrev pub width_of : OtsType → ℕ
width_of W1 = 1
width_of W2 = 2
width_of W4 = 4
width_of W8 = 8

-- p, the number of parts
abbrev pub part_count_of : OtsType → ℕ
part_count_of W1 = 265
part_count_of W2 = 133
part_count_of W4 = 67
part_count_of W8 = 34

-- ls, the bits by which the checksum is shifted left
abbrev pub checksum_shift_of : OtsType → ℕ
checksum_shift_of W1 = 7
checksum_shift_of W2 = 6
checksum_shift_of W4 = 4
checksum_shift_of W8 = 0

-- the bytes of a signature: the type code, the randomizer C and the parts
abbrev pub ots_signature_len_of : OtsType → ℕ
ots_signature_len_of t = 36 + 32 * part_count_of t

-- the type with this code, if there is one
abbrev pub ots_type_with_code : ℕ → Option OtsType
ots_type_with_code code = find (λ t. ots_code_of t == code) (W1 ∷ W2 ∷ W4 ∷ W8 ∷ [])
