-- When a signature verifies (RFC 8554, section 5.4.2).
use Rattle.std.specs.Prelude.{◌≡◌, ℕ, ◌+◌, ◌*◌, ◌^◌, ◌<◌, ◌==◌, ◌&&◌, nat_lt, Bool, List, length}
use Rattle.std.specs.Prelude.{take, drop}
use Rattle.std.specs.Str.{bytes_eq}
use Rattle.lms_ots.specs.OtsType.{ots_code_of, ots_signature_len_of}
use Rattle.lms_ots.specs.Signatures.{candidate_key}
use Rattle.lms_tree.specs.declared.public_key.LmsPublic.{LmsPublic}
use Rattle.lms_tree.specs.LmsType.{lms_code_of, height_of}
use Rattle.lms_tree.specs.Fields.{u32_at}
use Rattle.lms_tree.specs.Nodes.{leaf_value, ancestor_of}

-- the length of a signature under a key
abbrev pub lms_signature_len_of : LmsPublic → ℕ
lms_signature_len_of key = 8 + ots_signature_len_of key.ots + 32 * height_of key.lms

-- the fields of a signature: the leaf number q, the LM-OTS signature, which begins with its type
-- code, the LMS type code and the path
abbrev pub leaf_in : List ℕ → ℕ
leaf_in signature = u32_at signature 0

abbrev pub ots_code_in : List ℕ → ℕ
ots_code_in signature = u32_at signature 4

abbrev pub ots_signature_in : LmsPublic → List ℕ → List ℕ
ots_signature_in key signature = take (ots_signature_len_of key.ots) (drop 4 signature)

abbrev pub lms_code_in : LmsPublic → List ℕ → ℕ
lms_code_in key signature = u32_at signature (4 + ots_signature_len_of key.ots)

abbrev pub path_in : LmsPublic → List ℕ → List ℕ
path_in key signature = drop (8 + ots_signature_len_of key.ots) signature

-- the signature has the form of one under the key: its length, a leaf of the tree, and the key's
-- type codes
pub record HasForm (key : LmsPublic) (signature : List ℕ) : Type 0 where
  pub size : length signature ≡ lms_signature_len_of key
  pub leaf : leaf_in signature < 2 ^ height_of key.lms
  pub ots_code : ots_code_in signature ≡ ots_code_of key.ots
  pub lms_code : lms_code_in key signature ≡ lms_code_of key.lms

-- Tc, the root to which a one-time public key at leaf q leads
abbrev pub root_from : LmsPublic → ℕ → List ℕ → List ℕ → List ℕ
root_from key q path candidate =
    let r = 2 ^ height_of key.lms + q in
    ancestor_of key.id r (leaf_value key.id r candidate) path (height_of key.lms)

-- the root to which a signature of that form leads, through the one-time public key to which it
-- leads
unfoldable pub root_in : LmsPublic → List ℕ → List ℕ → List ℕ
root_in key message signature =
    let q = leaf_in signature in
    root_from key q (path_in key signature)
    (candidate_key key.ots key.id q message (ots_signature_in key signature))

-- the signature of the message verifies under the key
pub record Verifies (key : LmsPublic) (message signature : List ℕ) : Type 0 where
  pub form : HasForm key signature
  pub root : root_in key message signature ≡ key.root

-- that the signature has the form which the key asks for, as tests that compute
abbrev pub has_form : LmsPublic → List ℕ → Bool
has_form key signature =
    (length signature == lms_signature_len_of key)
    && nat_lt (leaf_in signature) (2 ^ height_of key.lms)
    && (ots_code_in signature == ots_code_of key.ots)
    && (lms_code_in key signature == lms_code_of key.lms)

unfoldable pub verifies : LmsPublic → List ℕ → List ℕ → Bool
verifies key message signature =
    has_form key signature && bytes_eq (root_in key message signature) key.root
