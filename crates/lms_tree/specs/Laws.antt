-- What signing and verifying owe each other.
use Rattle.std.specs.Prelude.{◌≡◌, ℕ, ◌^◌, ◌<◌, ◌↔◌, List, length, IsTrue}
use Rattle.lms_tree.specs.declared.public_key.LmsPublic.{LmsPublic}
use Rattle.lms_tree.specs.LmsType.{height_of}
use Rattle.lms_tree.specs.LmsPrivate.{LmsPrivate, lms_public_of}
use Rattle.lms_tree.specs.Signatures.{lms_signature_of}
use Rattle.lms_tree.specs.Verification.{Verifies, verifies}

-- what a private key signs verifies under its public key
abbrev pub SignaturesVerify : Type 0
SignaturesVerify =
    (key : LmsPrivate) (q : ℕ) (c message : List ℕ) → length c ≡ 32 → q < 2 ^ height_of key.lms
    → Verifies (lms_public_of key) message (lms_signature_of key q c message)

-- the test that computes is true exactly where the signature verifies
abbrev pub VerificationComputes : Type 0
VerificationComputes = (key : LmsPublic) (message signature : List ℕ)
    → IsTrue (verifies key message signature) ↔ Verifies key message signature
