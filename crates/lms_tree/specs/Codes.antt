-- Types of trees as numbers and private keys as numbers and lists, by which proofs tell them apart.
use Rattle.std.specs.Prelude.{◌≡◌, ℕ, List, refl}
use Rattle.std.specs.Coded.{Coded, code_by, coded×, coded_ℕ, coded_list}
use Rattle.std.specs.Option.{unwrap_or}
use Rattle.lms_ots.specs.declared.ots_type.OtsType.{OtsType}
use Rattle.lms_ots.specs.Codes.{ots_type_code}
use Rattle.lms_tree.specs.declared.lms_type.LmsType.{LmsType}
use Rattle.lms_tree.specs.declared.lms_type.LmsType.TheVariants.{H5, H10, H15, H20, H25}
use Rattle.lms_tree.specs.LmsPrivate.{LmsPrivate}
use Rattle.lms_tree.specs.LmsType.{lms_code_of, lms_type_with_code}

abbrev pub lms_type_of_code : ℕ → LmsType
lms_type_of_code n = unwrap_or (lms_type_with_code n) H5

pub lms_type_again : (t : LmsType) → lms_type_of_code (lms_code_of t) ≡ t
lms_type_again H5 = refl
lms_type_again H10 = refl
lms_type_again H15 = refl
lms_type_again H20 = refl
lms_type_again H25 = refl

abbrev pub lms_type_code : Coded LmsType
lms_type_code = code_by ℕ coded_ℕ lms_code_of lms_type_of_code lms_type_again

abbrev pub private_code : Coded LmsPrivate
private_code = code_by (LmsType × (OtsType × (List ℕ × List ℕ)))
    (coded× lms_type_code (coded× ots_type_code (coded× (coded_list coded_ℕ) (coded_list coded_ℕ))))
    (λ k. (k.lms, (k.ots, (k.id, k.seed))))
    (λ p. record { lms = p.0; ots = p.1.0; id = p.1.1.0; seed = p.1.1.1 }) (λ _. refl)
