-- The table of LMS types over SHA-256 with m = 32 (RFC 8554, section 5.1, table 2).
use Rattle.std.specs.Prelude.{ℕ, ◌==◌, [], ◌∷◌, Option, find}
use Rattle.lms_tree.specs.declared.lms_type.LmsType.{LmsType}
use Rattle.lms_tree.specs.declared.lms_type.LmsType.TheVariants.{H5, H10, H15, H20, H25}

-- the type code
abbrev pub lms_code_of : LmsType → ℕ
lms_code_of H5 = 5
lms_code_of H10 = 6
lms_code_of H15 = 7
lms_code_of H20 = 8
lms_code_of H25 = 9

-- h, the height of a tree
abbrev pub height_of : LmsType → ℕ
height_of H5 = 5
height_of H10 = 10
height_of H15 = 15
height_of H20 = 20
height_of H25 = 25

-- the type with this code, if there is one
abbrev pub lms_type_with_code : ℕ → Option LmsType
lms_type_with_code code = find (λ t. lms_code_of t == code) (H5 ∷ H10 ∷ H15 ∷ H20 ∷ H25 ∷ [])
