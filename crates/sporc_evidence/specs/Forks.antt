-- What a judgment shows of the histories behind two summaries.
use Rattle.std.specs.Prelude.{◌≡◌, ◌≢◌, ℕ, ◌<◌, List, ◌++◌, length, take, slice_get}
use Rattle.sporc_hash.specs.Chain.{chain}
use Rattle.sporc_hash.specs.Strings.{CollisionFree, chain_strings}
use Rattle.sporc_entry.specs.declared.genesis.Genesis.{Genesis}
use Rattle.sporc_entry.specs.Genesis.{genesis_bytes}

-- a list of values is a prefix of a history's chain
abbrev pub IsChainPrefix : Genesis → List (List ℕ) → List (List ℕ) → Type 0
IsChainPrefix genesis entries hashes =
    take (length hashes) (chain (genesis_bytes genesis) entries) ≡ hashes

-- no two different strings that are hashed for two histories have one digest
abbrev pub AreApart : Genesis → List (List ℕ) → List (List ℕ) → Type 0
AreApart genesis x y =
    CollisionFree
    (chain_strings (genesis_bytes genesis) x ++ chain_strings (genesis_bytes genesis) y)

-- two histories have their first k entries in common, and both go on, with different entries: two
-- were offered for one position
pub record PartAfter (k : ℕ) (x y : List (List ℕ)) : Type 0 where
  pub common : take k x ≡ take k y
  pub first : k < length x
  pub second : k < length y
  pub differ : slice_get x k ≢ slice_get y k
