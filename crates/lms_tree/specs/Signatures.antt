-- The signatures of a private key (RFC 8554, section 5.4).
use Rattle.std.specs.Prelude.{ℕ, List, ◌++◌}
use Rattle.std.specs.Int.{w32, to_be_bytes}
use Rattle.lms_ots.specs.Chains.{concatenated}
use Rattle.lms_ots.specs.Signatures.{ots_signature_of}
use Rattle.lms_tree.specs.LmsType.{lms_code_of, height_of}
use Rattle.lms_tree.specs.LmsPrivate.{LmsPrivate, sibling_value}

-- the signature of a message by leaf q under the randomizer c: u32 q, the LM-OTS signature, u32 LMS
-- type, and the path from the leaf upwards
unfoldable pub lms_signature_of : LmsPrivate → ℕ → List ℕ → List ℕ → List ℕ
lms_signature_of key q c message = to_be_bytes w32 q
    ++ ots_signature_of key.ots key.id q key.seed c message ++ to_be_bytes w32 (lms_code_of key.lms)
    ++ concatenated (sibling_value key q) (height_of key.lms)
