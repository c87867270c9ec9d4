-- The bytes of a public key, written and read back.
use Rattle.std.proofs.Common.{◌≡◌, ℕ, ◌+◌, ◌≤◌, ◌==◌, List, [], ◌∷◌, ◌++◌, length, take, drop, Some, refl, ap, sym, ◌∙◌, arith, w32, eq-eqb}
use Rattle.std.specs.Int.{to_be_bytes, from_be_bytes}
use Rattle.std.proofs.Math.Seq.{take-add}
use Rattle.std.proofs.lemmas.Nat.{be_bytes_4, from_be_bytes-to_be_bytes_4}
use Rattle.std.proofs.lemmas.Bool.{eqb-true}
use Rattle.std.proofs.lemmas.List.{length-append, length-drop, length-take, take_all}
use Rattle.sporc_base.specs.Bytes.{IsBytes}
use Rattle.sporc_base.proofs.ListLemmas.{found_passes}
use Rattle.sporc_base.proofs.ByteLemmas.{IsBytes-take, IsBytes-drop}
use Rattle.lms_ots.specs.declared.ots_type.OtsType.{OtsType}
use Rattle.lms_ots.specs.declared.ots_type.OtsType.TheVariants.{W1, W2, W4, W8}
use Rattle.lms_ots.specs.OtsType.{ots_code_of, ots_type_with_code}
use Rattle.lms_ots.proofs.SignatureLemmas.{code_fits as ots_code_fits}
use Rattle.lms_tree.specs.declared.lms_type.LmsType.{LmsType}
use Rattle.lms_tree.specs.declared.lms_type.LmsType.TheVariants.{H5, H10, H15, H20, H25}
use Rattle.lms_tree.specs.declared.public_key.LmsPublic.{LmsPublic}
use Rattle.lms_tree.specs.LmsType.{lms_code_of, lms_type_with_code}
use Rattle.lms_tree.specs.Fields.{u32_at}
use Rattle.lms_tree.specs.LmsPublic.{public_key_bytes, public_key_in}
use Rattle.lms_tree.proofs.SignatureLemmas.{field_one, field_two, field_three, field_four, code_fits}

-- a type has the code by which it was found
lms_code_of_found : (code : ℕ) (t : LmsType) → lms_type_with_code code ≡ Some t → lms_code_of t ≡ code
lms_code_of_found code t found = eqb-true _ _ (found_passes (λ (t : LmsType). lms_code_of t == code) (H5 ∷ H10 ∷ H15 ∷ H20 ∷ H25 ∷ []) t found)

ots_code_of_found : (code : ℕ) (t : OtsType) → ots_type_with_code code ≡ Some t → ots_code_of t ≡ code
ots_code_of_found code t found = eqb-true _ _ (found_passes (λ (t : OtsType). ots_code_of t == code) (W1 ∷ W2 ∷ W4 ∷ W8 ∷ []) t found)

-- a type is found by its code
lms_type_with_code_of : (t : LmsType) → lms_type_with_code (lms_code_of t) ≡ Some t
lms_type_with_code_of H5 = refl
lms_type_with_code_of _ = refl

ots_type_with_code_of : (t : OtsType) → ots_type_with_code (ots_code_of t) ≡ Some t
ots_type_with_code_of W1 = refl
ots_type_with_code_of _ = refl

-- four bytes are the bytes of their number
number_bytes : (bytes : List ℕ) (place : ℕ) → place + 4 ≤ length bytes → IsBytes bytes → to_be_bytes w32 (u32_at bytes place) ≡ take 4 (drop place bytes)
number_bytes bytes place inside small =
    be_bytes_4 (take 4 (drop place bytes)) _ (omega (arith, length-take 4 (drop place bytes), length-drop place bytes)) (IsBytes-take 4 (drop place bytes) (IsBytes-drop place bytes small)) refl

-- the bytes of a key, cut where its fields end
fields_of : (bytes : List ℕ) → length bytes ≡ 56 → take 4 bytes ++ take 4 (drop 4 bytes) ++ take 16 (drop 8 bytes) ++ take 32 (drop 24 bytes) ≡ bytes
fields_of bytes size = rw (← take-add 4 4 bytes, ← take-add 8 16 bytes, ← take-add 24 32 bytes) (take_all 56 bytes (omega arith))

-- the key that was read is the one that the bytes spell
pub public_key_is : (bytes id root : List ℕ) (lms : LmsType) (ots : OtsType) → length bytes ≡ 56
    → lms_type_with_code (u32_at bytes 0) ≡ Some lms → ots_type_with_code (u32_at bytes 4) ≡ Some ots
    → id ≡ take 16 (drop 8 bytes) → root ≡ take 32 (drop 24 bytes)
    → Some (record { lms = lms; ots = ots; id = id; root = root }) ≡ public_key_in bytes
public_key_is bytes id root lms ots size first second third fourth = rw (eq-eqb _ _ size, first, second, third, fourth) refl

-- its bytes are those that were read
pub public_key_spelling : (bytes id root : List ℕ) (lms : LmsType) (ots : OtsType) → length bytes ≡ 56
    → IsBytes bytes
    → lms_type_with_code (u32_at bytes 0) ≡ Some lms → ots_type_with_code (u32_at bytes 4) ≡ Some ots
    → id ≡ take 16 (drop 8 bytes) → root ≡ take 32 (drop 24 bytes)
    → public_key_bytes (record { lms = lms; ots = ots; id = id; root = root }) ≡ bytes
public_key_spelling bytes id root lms ots size small first second third fourth =
    let lms_bytes = ap (to_be_bytes w32) (lms_code_of_found (u32_at bytes 0) lms first) ∙ number_bytes bytes 0 (omega arith) small in
    let ots_bytes = ap (to_be_bytes w32) (ots_code_of_found (u32_at bytes 4) ots second) ∙ number_bytes bytes 4 (omega arith) small in
    joined _ _ id root _ _ _ _ lms_bytes ots_bytes third fourth ∙ fields_of bytes size
  where
    joined : (a b c d a' b' c' d' : List ℕ) → a ≡ a' → b ≡ b' → c ≡ c' → d ≡ d' → a ++ b ++ c ++ d ≡ a' ++ b' ++ c' ++ d'
    joined a b c d a' b' c' d' p q r s = cc

-- the bytes of a key spell it
pub public_key_read_back : (key : LmsPublic) → length key.id ≡ 16 → length key.root ≡ 32 → public_key_in (public_key_bytes key) ≡ Some key
public_key_read_back key sixteen all =
    let a = to_be_bytes w32 (lms_code_of key.lms) in
    let b = to_be_bytes w32 (ots_code_of key.ots) in
    let two : length (a ++ b) ≡ 8 = omega (arith, length-append a b) in
    let three : length (a ++ b ++ key.id) ≡ 24 = omega (arith, length-append (a ++ b) key.id) in
    let size : length (a ++ b ++ key.id ++ key.root) ≡ 56 = omega (arith, length-append (a ++ b ++ key.id) key.root) in
    let first : lms_type_with_code (u32_at (a ++ b ++ key.id ++ key.root) 0) ≡ Some key.lms =
    ap (λ (bytes : List ℕ). lms_type_with_code (from_be_bytes w32 bytes)) (field_one a b key.id key.root 4 refl)
    ∙ ap lms_type_with_code (from_be_bytes-to_be_bytes_4 (lms_code_of key.lms) (code_fits key.lms)) ∙ lms_type_with_code_of key.lms in
    let second : ots_type_with_code (u32_at (a ++ b ++ key.id ++ key.root) 4) ≡ Some key.ots =
    ap (λ (bytes : List ℕ). ots_type_with_code (from_be_bytes w32 bytes)) (field_two a b key.id key.root 4 4 refl refl)
    ∙ ap ots_type_with_code (from_be_bytes-to_be_bytes_4 (ots_code_of key.ots) (ots_code_fits key.ots)) ∙ ots_type_with_code_of key.ots in
    sym (public_key_is (a ++ b ++ key.id ++ key.root) key.id key.root key.lms key.ots size first second
    (sym (field_three a b key.id key.root 8 16 two sixteen)) (sym (field_four a b key.id key.root 24 32 three all)))
