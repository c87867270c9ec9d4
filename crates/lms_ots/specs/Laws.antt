-- What signing and verifying owe each other.
use Rattle.std.specs.Prelude.{◌≡◌, ℕ, List, length, Ok}
use Rattle.lms_ots.specs.declared.ots_type.OtsType.{OtsType}
use Rattle.lms_ots.specs.Signatures.{ots_public_of, ots_signature_of, ots_candidate_of}

-- each signature leads to the public key of its seed
abbrev pub SignaturesLeadToPublicKeys : Type 0
SignaturesLeadToPublicKeys =
    (t : OtsType) (id : List ℕ) (q : ℕ) (seed c message : List ℕ) → length c ≡ 32
    → ots_candidate_of t id q message (ots_signature_of t id q seed c message)
    ≡ Ok (ots_public_of t id q seed)
