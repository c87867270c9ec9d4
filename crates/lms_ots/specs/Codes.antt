-- Types of one-time signatures as numbers, by which proofs tell them apart.
use Rattle.std.specs.Prelude.{◌≡◌, ℕ, refl}
use Rattle.std.specs.Coded.{Coded, code_by, coded_ℕ}
use Rattle.std.specs.Option.{unwrap_or}
use Rattle.lms_ots.specs.declared.ots_type.OtsType.{OtsType}
use Rattle.lms_ots.specs.declared.ots_type.OtsType.TheVariants.{W1, W2, W4, W8}
use Rattle.lms_ots.specs.OtsType.{ots_code_of, ots_type_with_code}

abbrev pub ots_type_of_code : ℕ → OtsType
ots_type_of_code n = unwrap_or (ots_type_with_code n) W1

pub ots_type_again : (t : OtsType) → ots_type_of_code (ots_code_of t) ≡ t
ots_type_again W1 = refl
ots_type_again W2 = refl
ots_type_again W4 = refl
ots_type_again W8 = refl

abbrev pub ots_type_code : Coded OtsType
ots_type_code = code_by ℕ coded_ℕ ots_code_of ots_type_of_code ots_type_again
