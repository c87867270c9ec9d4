-- LM-OTS public keys, signatures and their verification (RFC 8554, sections 4.3 to 4.6).
use Rattle.std.specs.Prelude.{ℕ, ◌+◌, ◌-◌, ◌*◌, ◌^◌, ◌==◌, List, [], ◌∷◌, ◌++◌, length, take, drop}
use Rattle.std.specs.Prelude.{Result, Ok, Err, if◌then◌else◌}
use Rattle.std.specs.Int.{w32, to_be_bytes, from_be_bytes}
use Rattle.sha2.specs.Sha256.{sha256}
use Rattle.lms_ots.specs.declared.ots_type.OtsType.{OtsType}
use Rattle.lms_ots.specs.declared.signature.OtsFault.{OtsFault}
use Rattle.lms_ots.specs.declared.signature.OtsFault.TheVariants.{BadType, BadLength}
use Rattle.lms_ots.specs.OtsType.{ots_code_of, width_of, part_count_of, ots_signature_len_of}
use Rattle.lms_ots.specs.Coefficients.{coef_of, with_checksum}
use Rattle.lms_ots.specs.Chains.{secret_part, chain_of, concatenated}

-- I || u32str(q) || u16str(D_PBLC), what stands before the parts in a public key's string
abbrev pub public_prefix : List ℕ → ℕ → List ℕ
public_prefix id q = id ++ to_be_bytes w32 q ++ 0x80 ∷ 0x80 ∷ []

-- y[i], the end of chain i
abbrev pub public_part : OtsType → List ℕ → ℕ → List ℕ → ℕ → List ℕ
public_part t id q seed i = chain_of id q i 0 (2 ^ width_of t - 1) (secret_part id q i seed)

-- K, the public key of a seed (section 4.3)
unfoldable pub ots_public_of : OtsType → List ℕ → ℕ → List ℕ → List ℕ
ots_public_of t id q seed =
    sha256 (public_prefix id q ++ concatenated (public_part t id q seed) (part_count_of t))

-- Q, the digest of a message under the randomizer c
abbrev pub message_digest : List ℕ → ℕ → List ℕ → List ℕ → List ℕ
message_digest id q c message = sha256 (id ++ to_be_bytes w32 q ++ 0x81 ∷ 0x81 ∷ c ++ message)

-- part i of a signature of a string: chain i from its start, as far as the i-th coefficient says
abbrev pub signed_part : OtsType → List ℕ → ℕ → List ℕ → List ℕ → ℕ → List ℕ
signed_part t id q seed string i =
    chain_of id q i 0 (coef_of string i (width_of t)) (secret_part id q i seed)

-- the signature of a message under the randomizer c (section 4.5)
unfoldable pub ots_signature_of : OtsType → List ℕ → ℕ → List ℕ → List ℕ → List ℕ → List ℕ
ots_signature_of t id q seed c message =
    let string = with_checksum (message_digest id q c message) t in
    to_be_bytes w32 (ots_code_of t) ++ c
    ++ concatenated (signed_part t id q seed string) (part_count_of t)

-- the type code that a signature begins with
abbrev pub code_in : List ℕ → ℕ
code_in signature = from_be_bytes w32 (take 4 signature)

-- C, the randomizer in a signature
abbrev pub randomizer_in : List ℕ → List ℕ
randomizer_in signature = take 32 (drop 4 signature)

-- part i in a signature
abbrev pub part_in : List ℕ → ℕ → List ℕ
part_in signature i = take 32 (drop (36 + 32 * i) signature)

-- z[i], the end of chain i, from part i of a signature of a string on
abbrev pub ended_part : OtsType → List ℕ → ℕ → List ℕ → List ℕ → ℕ → List ℕ
ended_part t id q string signature i =
    let a = coef_of string i (width_of t) in
    chain_of id q i a (2 ^ width_of t - 1 - a) (part_in signature i)

-- Kc, the public key to which a signature of the right form leads
unfoldable pub candidate_key : OtsType → List ℕ → ℕ → List ℕ → List ℕ → List ℕ
candidate_key t id q message signature =
    let string = with_checksum (message_digest id q (randomizer_in signature) message) t in
    sha256
    (public_prefix id q ++ concatenated (ended_part t id q string signature) (part_count_of t))

-- the public key to which a signature leads, or what is wrong with its form (section 4.6, algorithm
-- 4b)
abbrev pub ots_candidate_of : OtsType → List ℕ → ℕ → List ℕ → List ℕ → Result (List ℕ) OtsFault
ots_candidate_of t id q message signature =
    if length signature == ots_signature_len_of t
    then (if code_in signature == ots_code_of t
    then Ok (candidate_key t id q message signature)
    else Err BadType)
    else Err BadLength
