-- The signature of an entry that a client makes: how long it is, the random bytes that it shows, and that it verifies.
use Rattle.std.proofs.Common.{◌≡◌, ℕ, ◌^◌, ◌<◌, ◌≤◌, List, ◌++◌, length, take, drop, ap, ◌∙◌, arith, append_assoc, length-append, zero, suc, true, refl, Some}
use Rattle.sporc_client.proofs.Common.{w32, to_be_bytes, from_be_bytes, drop_at, take_at, LmsPrivate, lms_public_of, sibling_value, height_of, lms_code_of, lms_signature_len_of, verifies}
use Rattle.sporc_client.proofs.Common.{MAX_SIGNATURE, IsTrue, and_from, eq-eqb, le-leb, public_key_bytes, public_key_in, names_leaf, verifies_device, verifies_under, LmsPublic}
use Rattle.sporc_client.proofs.Common.{length-sha256}
use Rattle.lms_ots.specs.declared.ots_type.OtsType.{OtsType}
use Rattle.lms_ots.specs.declared.ots_type.OtsType.TheVariants.{W1}
use Rattle.lms_ots.specs.OtsType.{ots_code_of, ots_signature_len_of, part_count_of}
use Rattle.lms_ots.specs.Chains.{concatenated}
use Rattle.lms_ots.specs.Coefficients.{with_checksum}
use Rattle.lms_ots.specs.Signatures.{message_digest, ots_signature_of, signed_part}
use Rattle.lms_tree.specs.Signatures.{lms_signature_of}
use Rattle.lms_tree.specs.Verification.{leaf_in}
use Rattle.lms_tree.proofs.SignatureLemmas.{signatures_verify, field_one, height_fits}
use Rattle.std.proofs.lemmas.Nat.{from_be_bytes-to_be_bytes_4}
use Rattle.lms_ots.proofs.ConcatenatedLemmas.{length-concatenated}
use Rattle.lms_ots.proofs.SignatureLemmas.{length-signed_part}
use Rattle.lms_tree.specs.Nodes.{node_of}
use Rattle.lms_tree.proofs.PublicKeyLemmas.{public_key_read_back}
use Rattle.lms_tree.proofs.VerificationLemmas.{verifies_decides}

-- ---- how long it is

most_parts : (t : OtsType) → ots_signature_len_of t ≤ 8516
most_parts W1 = omega arith
most_parts t = omega arith

pub signature_small : (key : LmsPublic) → lms_signature_len_of key ≤ MAX_SIGNATURE
signature_small key = omega (arith, most_parts key.ots, height_fits key.lms)

pub signature_size : (key : LmsPrivate) (q : ℕ) (c message : List ℕ) → length c ≡ 32 → q < 2 ^ height_of key.lms → length (lms_signature_of key q c message) ≤ MAX_SIGNATURE
signature_size key q c message size within =
    let v = signatures_verify key q c message size within in
    omega (arith, v.form.size, signature_small (lms_public_of key))

-- ---- its random bytes stand behind its leaf and the type of its one-time key

fields : (front code c parts types path : List ℕ) → front ++ (code ++ c ++ parts) ++ types ++ path ≡ (front ++ code) ++ (c ++ (parts ++ (types ++ path)))
fields front code c parts types path = simp append_assoc

pub shown_randomizer : (key : LmsPrivate) (q : ℕ) (c message : List ℕ) → length c ≡ 32 → take 32 (drop 8 (lms_signature_of key q c message)) ≡ c
unfolding lms_signature_of ots_signature_of
shown_randomizer key q c message size =
    let front = to_be_bytes w32 q in
    let code = to_be_bytes w32 (ots_code_of key.ots) in
    let parts = concatenated (signed_part key.ots key.id q key.seed (with_checksum (message_digest key.id q c message) key.ots)) (part_count_of key.ots) in
    let types = to_be_bytes w32 (lms_code_of key.lms) in
    let path = concatenated (sibling_value key q) (height_of key.lms) in
    let rest = parts ++ (types ++ path) in
    let eight : length (front ++ code) ≡ 8 = omega (arith, length-append front code) in
    ap (λ (bytes : List ℕ). take 32 (drop 8 bytes)) (fields front code c parts types path)
    ∙ ap (take 32) (drop_at (front ++ code) (c ++ rest) 8 eight)
    ∙ take_at c rest 32 size

-- ---- how long a signature is at least

few_parts : (t : OtsType) → 34 ≤ part_count_of t
few_parts W1 = omega arith
few_parts t = omega arith

pub signature_len : (key : LmsPrivate) (q : ℕ) (c message : List ℕ) → 1096 ≤ length (lms_signature_of key q c message)
unfolding lms_signature_of ots_signature_of
signature_len key q c message =
    let string = with_checksum (message_digest key.id q c message) key.ots in
    let part = signed_part key.ots key.id q key.seed string in
    let n = part_count_of key.ots in
    let code = to_be_bytes w32 (ots_code_of key.ots) in
    let parts = length-concatenated part (length-signed_part key.ots key.id q key.seed string) n in
    let ots = code ++ c ++ concatenated part n in
    let front = to_be_bytes w32 q in
    let types = to_be_bytes w32 (lms_code_of key.lms) in
    let path = concatenated (sibling_value key q) (height_of key.lms) in
    omega (
      arith,
      few_parts key.ots,
      parts,
      length-append (code ++ c) (concatenated part n),
      length-append code c,
      length-append (front ++ ots ++ types) path,
      length-append (front ++ ots) types,
      length-append front ots,
    )

-- ---- the leaf that it names

begins_with_leaf : (key : LmsPrivate) (q : ℕ) (c message : List ℕ) → q < 2 ^ 32 → leaf_in (lms_signature_of key q c message) ≡ q
unfolding lms_signature_of
begins_with_leaf key q c message small =
    ap (from_be_bytes w32)
    (field_one (to_be_bytes w32 q) (ots_signature_of key.ots key.id q key.seed c message) (to_be_bytes w32 (lms_code_of key.lms)) (concatenated (sibling_value key q) (height_of key.lms)) 4 refl)
    ∙ from_be_bytes-to_be_bytes_4 q small

pub names_own_leaf : (key : LmsPrivate) (q : ℕ) (c message : List ℕ) → q < 2 ^ 32 → names_leaf q (lms_signature_of key q c message) ≡ true
names_own_leaf key q c message small =
    let long : 4 ≤ length (lms_signature_of key q c message) = omega (arith, signature_len key q c message) in
    and_from _ _ (le-leb 4 (length (lms_signature_of key q c message)) long) (eq-eqb (leaf_in (lms_signature_of key q c message)) q (begins_with_leaf key q c message small))

-- ---- and that it verifies

pub root_len : (key : LmsPrivate) (k r : ℕ) → length (node_of key.ots key.id key.seed (height_of key.lms) k r) ≡ 32
unfolding node_of
root_len key zero r = length-sha256 _
root_len key (suc k) r = length-sha256 _

pub verifies_own : (key : LmsPrivate) (q : ℕ) (c message : List ℕ) → length key.id ≡ 16 → length c ≡ 32 → q < 2 ^ height_of key.lms
    → verifies_device message (lms_signature_of key q c message) (Some (public_key_bytes (lms_public_of key))) ≡ true
verifies_own key q c message id size fits =
    let read : public_key_in (public_key_bytes (lms_public_of key)) ≡ Some (lms_public_of key) = public_key_read_back (lms_public_of key) id (root_len key (height_of key.lms) 1) in
    let computes : IsTrue (verifies (lms_public_of key) message (lms_signature_of key q c message)) =
    (verifies_decides (lms_public_of key) message (lms_signature_of key q c message)).1 (signatures_verify key q c message size fits) in
    ap (verifies_under message (lms_signature_of key q c message)) read ∙ computes
