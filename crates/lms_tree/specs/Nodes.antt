-- The nodes of a tree (RFC 8554, section 5.3), and the way up from a leaf (section 5.4.2).
use Rattle.std.specs.Prelude.{ℕ, zero, suc, ◌+◌, ◌-◌, ◌*◌, ◌/◌, ◌%◌, ◌^◌, ◌==◌, List, ◌∷◌, ◌++◌}
use Rattle.std.specs.Prelude.{take, drop, if◌then◌else◌}
use Rattle.std.specs.Int.{w32, to_be_bytes}
use Rattle.sha2.specs.Sha256.{sha256}
use Rattle.lms_ots.specs.declared.ots_type.OtsType.{OtsType}
use Rattle.lms_ots.specs.Signatures.{ots_public_of}

-- T[r] of a leaf with this one-time public key
abbrev pub leaf_value : List ℕ → ℕ → List ℕ → List ℕ
leaf_value id r key = sha256 (id ++ to_be_bytes w32 r ++ 0x82 ∷ 0x82 ∷ key)

-- T[r] of a node above two others
abbrev pub inner_value : List ℕ → ℕ → List ℕ → List ℕ → List ℕ
inner_value id r left right = sha256 (id ++ to_be_bytes w32 r ++ 0x83 ∷ 0x83 ∷ left ++ right)

-- T[r] of a tree of height h, where node r has k levels below it
unfoldable pub node_of : OtsType → List ℕ → List ℕ → ℕ → ℕ → ℕ → List ℕ
node_of t id seed h zero r = leaf_value id r (ots_public_of t id (r - 2 ^ h) seed)
node_of t id seed h (suc k) r =
    inner_value id r (node_of t id seed h k (2 * r)) (node_of t id seed h k (2 * r + 1))

-- the number of the node beside node r
abbrev pub sibling : ℕ → ℕ
sibling r = if r % 2 == 0 then r + 1 else r - 1

-- the value of the node above node r, from the values of node r and of its sibling
abbrev pub parent_value : List ℕ → ℕ → List ℕ → List ℕ → List ℕ
parent_value id r value beside =
    if r % 2 == 0 then inner_value id (r / 2) value beside else inner_value id (r / 2) beside value

-- the value n levels above node r, where `path` has the values of the siblings on the way
unfoldable pub ancestor_of : List ℕ → ℕ → List ℕ → List ℕ → ℕ → List ℕ
ancestor_of id r value path zero = value
ancestor_of id r value path (suc n) =
    parent_value id (r / 2 ^ n) (ancestor_of id r value path n) (take 32 (drop (32 * n) path))
