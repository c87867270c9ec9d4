-- A private key (RFC 8554, section 5.2 and Appendix A), and what follows from it.
use Rattle.std.specs.Prelude.{ℕ, zero, suc, ◌+◌, ◌/◌, ◌^◌, List, [], ◌∷◌, ◌++◌, slice_index_or}
use Rattle.lms_ots.specs.declared.ots_type.OtsType.{OtsType}
use Rattle.lms_tree.specs.declared.lms_type.LmsType.{LmsType}
use Rattle.lms_tree.specs.declared.public_key.LmsPublic.{LmsPublic}
use Rattle.lms_tree.specs.LmsType.{height_of}
use Rattle.lms_tree.specs.Nodes.{node_of, sibling}

-- the two types, the identifier I and the seed of all one-time keys
pub record LmsPrivate : Type 0 where
  pub lms : LmsType
  pub ots : OtsType
  pub id : List ℕ
  pub seed : List ℕ

-- T[r], where node r has k levels below it
abbrev pub node_at : LmsPrivate → ℕ → ℕ → List ℕ
node_at key k r = node_of key.ots key.id key.seed (height_of key.lms) k r

-- T[1]
abbrev pub root_of : LmsPrivate → List ℕ
root_of key = node_at key (height_of key.lms) 1

-- the public key
abbrev pub lms_public_of : LmsPrivate → LmsPublic
lms_public_of key = record { lms = key.lms; ots = key.ots; id = key.id; root = root_of key }

-- the value of the sibling on the way from leaf q to the root, n levels above the leaf
abbrev pub sibling_value : LmsPrivate → ℕ → ℕ → List ℕ
sibling_value key q n = node_at key n (sibling ((2 ^ height_of key.lms + q) / 2 ^ n))

-- the values of the first n siblings on the way from leaf q to the root
unfoldable pub path_of : LmsPrivate → ℕ → ℕ → List (List ℕ)
path_of key q zero = []
path_of key q (suc n) = path_of key q n ++ sibling_value key q n ∷ []

-- value i of a list of values
abbrev pub value_at : List (List ℕ) → ℕ → List ℕ
value_at values i = slice_index_or values i []
