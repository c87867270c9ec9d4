-- A signature leads to the public key of its seed.
use Rattle.std.proofs.Common.{◌≡◌, ℕ, ◌+◌, ◌-◌, ◌*◌, ◌^◌, ◌<◌, List, ◌++◌, length, take, drop, refl, ap, ◌∙◌, arith, append_assoc, w32, eq-eqb}
use Rattle.std.specs.Int.{to_be_bytes, from_be_bytes}
use Rattle.std.proofs.lemmas.Nat.{from_be_bytes-to_be_bytes_4}
use Rattle.std.proofs.lemmas.List.{length-append, take_at, drop_at}
use Rattle.sha2.proofs.Facts256.{length-sha256}
use Rattle.lms_ots.specs.declared.ots_type.OtsType.{OtsType}
use Rattle.lms_ots.specs.declared.ots_type.OtsType.TheVariants.{W1}
use Rattle.lms_ots.specs.OtsType.{width_of, part_count_of, ots_code_of, ots_signature_len_of}
use Rattle.lms_ots.specs.Coefficients.{coef_of, with_checksum}
use Rattle.lms_ots.specs.Chains.{chain_of, concatenated, secret_part}
use Rattle.lms_ots.specs.Signatures.{signed_part, ended_part, public_part, part_in, code_in, randomizer_in, ots_signature_of, candidate_key, ots_public_of, message_digest}
use Rattle.lms_ots.specs.Laws.{SignaturesLeadToPublicKeys}
use Rattle.lms_ots.proofs.CoefficientLemmas.{coef_below}
use Rattle.lms_ots.proofs.ChainLemmas.{chain_of-chain_of, length-chain_of}
use Rattle.lms_ots.proofs.ConcatenatedLemmas.{length-concatenated, in_back, concatenated_part, concatenated_same}

-- the end of a chain, as the loop finds it from a part of a signature
pub ended_is : (t : OtsType) (id : List ℕ) (q : ℕ) (string signature : List ℕ) (i from len : ℕ) (part end : List ℕ)
    → from ≡ coef_of string i (width_of t) → len ≡ 32 → part ≡ take len (drop (36 + 32 * i) signature)
    → end ≡ chain_of id q i from (2 ^ width_of t - 1 - from) part
    → end ≡ ended_part t id q string signature i
ended_is t id q string signature i from len part end first size cut last =
    let whole = rw size at cut in
    rw (← first, ← whole) last

-- a chain that is ended from a signed part ends where the public key's does
ended_signed : (t : OtsType) (id : List ℕ) (q : ℕ) (seed string signature : List ℕ) (i : ℕ)
    → part_in signature i ≡ signed_part t id q seed string i
    → ended_part t id q string signature i ≡ public_part t id q seed i
ended_signed t id q seed string signature i cut =
    let a = coef_of string i (width_of t) in
    let below = coef_below string i (width_of t) in
    let all : a + (2 ^ width_of t - 1 - a) ≡ 2 ^ width_of t - 1 = omega (arith, below) in
    rw (cut, chain_of-chain_of id q i a (2 ^ width_of t - 1 - a) (secret_part id q i seed), all) refl

-- the fields of a signature, read back
code_of_fields : (code c rest : List ℕ) → length code ≡ 4 → take 4 (code ++ c ++ rest) ≡ code
code_of_fields code c rest four = rw (append_assoc code c rest) (take_at code (c ++ rest) 4 four)

randomizer_of_fields : (code c rest : List ℕ) → length code ≡ 4 → length c ≡ 32 → randomizer_in (code ++ c ++ rest) ≡ c
randomizer_of_fields code c rest four all =
    rw (append_assoc code c rest, drop_at code (c ++ rest) 4 four) (take_at c rest 32 all)

part_of_fields : (code c rest : List ℕ) (i : ℕ) → length code ≡ 4 → length c ≡ 32
    → part_in (code ++ c ++ rest) i ≡ take 32 (drop (32 * i) rest)
part_of_fields code c rest i four all =
    in_back (36 + 32 * i) 32 (32 * i) (code ++ c) rest (omega (arith, length-append code c))

-- what a list has as the signature of a message
record IsSigned (t : OtsType) (id : List ℕ) (q : ℕ) (seed c message signature : List ℕ) : Type 0 where
  size : length signature ≡ ots_signature_len_of t
  code : code_in signature ≡ ots_code_of t
  randomizer : randomizer_in signature ≡ c
  parts : (i : ℕ) → i < part_count_of t
      → part_in signature i ≡ signed_part t id q seed (with_checksum (message_digest id q c message) t) i

leads_signed : (t : OtsType) (id : List ℕ) (q : ℕ) (seed c message signature : List ℕ) → IsSigned t id q seed c message signature
    → candidate_key t id q message signature ≡ ots_public_of t id q seed
unfolding candidate_key ots_public_of
leads_signed t id q seed c message signature signed =
    let string = with_checksum (message_digest id q c message) t in
    let same = concatenated_same (ended_part t id q string signature) (public_part t id q seed) (part_count_of t)
    (λ i below. ended_signed t id q seed string signature i (signed.parts i below)) in
    rw (signed.randomizer, same) refl

pub code_fits : (t : OtsType) → ots_code_of t < 2 ^ 32
code_fits W1 = omega arith
code_fits _ = omega arith

pub length-signed_part : (t : OtsType) (id : List ℕ) (q : ℕ) (seed string : List ℕ) (i : ℕ) → length (signed_part t id q seed string i) ≡ 32
length-signed_part t id q seed string i = length-chain_of id q i 0 (coef_of string i (width_of t)) _ (length-sha256 _)

-- a signature has its type's length
pub length-ots_signature_of : (t : OtsType) (id : List ℕ) (q : ℕ) (seed c message : List ℕ) → length c ≡ 32
    → length (ots_signature_of t id q seed c message) ≡ ots_signature_len_of t
unfolding ots_signature_of
length-ots_signature_of t id q seed c message all =
    let string = with_checksum (message_digest id q c message) t in
    let part = signed_part t id q seed string in
    let code = to_be_bytes w32 (ots_code_of t) in
    let rest = concatenated part (part_count_of t) in
    let parts = length-concatenated part (length-signed_part t id q seed string) (part_count_of t) in
    omega (arith, length-append (code ++ c) rest, length-append code c, parts)

signature_is_signed : (t : OtsType) (id : List ℕ) (q : ℕ) (seed c message : List ℕ) → length c ≡ 32
    → IsSigned t id q seed c message (ots_signature_of t id q seed c message)
unfolding ots_signature_of
signature_is_signed t id q seed c message all =
    let string = with_checksum (message_digest id q c message) t in
    let part = signed_part t id q seed string in
    let code = to_be_bytes w32 (ots_code_of t) in
    let rest = concatenated part (part_count_of t) in record {
      size = length-ots_signature_of t id q seed c message all;
      code = ap (from_be_bytes w32) (code_of_fields code c rest refl) ∙ from_be_bytes-to_be_bytes_4 (ots_code_of t) (code_fits t);
      randomizer = randomizer_of_fields code c rest refl all;
      parts = λ i below. part_of_fields code c rest i refl all ∙ concatenated_part part (length-signed_part t id q seed string) (part_count_of t) i below;
    }

-- a signature begins with its type's code
pub code_of_signature : (t : OtsType) (id : List ℕ) (q : ℕ) (seed c message : List ℕ) → length c ≡ 32
    → code_in (ots_signature_of t id q seed c message) ≡ ots_code_of t
code_of_signature t id q seed c message all =
    let signed = signature_is_signed t id q seed c message all in signed.code

-- its key is the public key of its seed
pub key_of_signature : (t : OtsType) (id : List ℕ) (q : ℕ) (seed c message : List ℕ) → length c ≡ 32
    → candidate_key t id q message (ots_signature_of t id q seed c message) ≡ ots_public_of t id q seed
key_of_signature t id q seed c message all = leads_signed t id q seed c message _ (signature_is_signed t id q seed c message all)

-- every signature leads to the public key of its seed
pub signatures_lead : SignaturesLeadToPublicKeys
signatures_lead t id q seed c message all =
    rw (
      eq-eqb _ _ (length-ots_signature_of t id q seed c message all),
      eq-eqb _ _ (code_of_signature t id q seed c message all),
      key_of_signature t id q seed c message all,
    ) refl
