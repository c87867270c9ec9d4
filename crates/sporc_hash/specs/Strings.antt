-- Every string that is hashed for a history, and when no two of them collide.
use Rattle.std.specs.Prelude.{◌≡◌, ℕ, suc, zero, List, [], ◌∷◌, ◌++◌, Option, None, Some, Contains}
use Rattle.sha2.specs.Sha256.{sha256}
use Rattle.sporc_hash.specs.Chain.{genesis_string, genesis_value, entry_string, link_string}
use Rattle.sporc_hash.specs.Chain.{next_value, commitment_string}

-- both strings of each entry, from a first value on
abbrev pub entry_strings : List ℕ → List (List ℕ) → List (List ℕ)
entry_strings v [] = []
entry_strings v (e ∷ es) = entry_string e ∷ link_string v e ∷ entry_strings (next_value v e) es

-- the strings of a history's chain
abbrev pub chain_strings : List ℕ → List (List ℕ) → List (List ℕ)
chain_strings genesis es = genesis_string genesis ∷ entry_strings (genesis_value genesis) es

-- the commitment string of an epoch's key, where the key is given
abbrev pub key_string : List ℕ → ℕ → Option (List ℕ) → List (List ℕ)
key_string document epoch None = []
key_string document epoch (Some key) = commitment_string document epoch key ∷ []

-- the commitment strings of the first n epochs whose keys are given
abbrev pub key_strings : List ℕ → (ℕ → Option (List ℕ)) → ℕ → List (List ℕ)
key_strings document keys zero = []
key_strings document keys (suc n) = key_strings document keys n ++ key_string document n (keys n)

-- every string that is hashed for a history of n epochs
abbrev pub strings : List ℕ → List (List ℕ) → List ℕ → (ℕ → Option (List ℕ)) → ℕ → List (List ℕ)
strings genesis es document keys n = chain_strings genesis es ++ key_strings document keys n

-- no two different strings of the list have one SHA-256 digest
abbrev pub CollisionFree : List (List ℕ) → Type 0
CollisionFree xs = (x y : List ℕ) → Contains xs x → Contains xs y → sha256 x ≡ sha256 y → x ≡ y
