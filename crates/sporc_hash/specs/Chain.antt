-- The hash chain of a history and the commitments to keys. `sha256` is SHA-256 of FIPS 180-4. A
-- history is the list of its entries' bytes, oldest first.
use Rattle.std.specs.Prelude.{ℕ, List, [], ◌∷◌, ◌++◌}
use Rattle.std.specs.Int.{w32, to_be_bytes}
use Rattle.sha2.specs.Sha256.{sha256}

-- what is hashed for the genesis
abbrev pub genesis_string : List ℕ → List ℕ
genesis_string genesis = 0x00 ∷ genesis

-- the chain's first value
abbrev pub genesis_value : List ℕ → List ℕ
genesis_value genesis = sha256 (genesis_string genesis)

-- what is hashed for an entry's own bytes
abbrev pub entry_string : List ℕ → List ℕ
entry_string entry = 0x02 ∷ entry

-- what is hashed for one link of the chain
abbrev pub link_string : List ℕ → List ℕ → List ℕ
link_string previous entry = 0x01 ∷ previous ++ sha256 (entry_string entry)

-- the chain's value after one entry more
abbrev pub next_value : List ℕ → List ℕ → List ℕ
next_value previous entry = sha256 (link_string previous entry)

-- the digest of an entry's own bytes, which needs no history
abbrev pub entry_digest : List ℕ → List ℕ
entry_digest entry = sha256 (entry_string entry)

-- the chain's value after one entry more, by the digest of its bytes
abbrev pub link_value : List ℕ → List ℕ → List ℕ
link_value previous digest = sha256 (0x01 ∷ previous ++ digest)

-- the chain's values before each entry and after the last, from a first value on
unfoldable pub chain_after : List ℕ → List (List ℕ) → List (List ℕ)
chain_after value [] = value ∷ []
chain_after value (e ∷ es) = value ∷ chain_after (next_value value e) es

-- the chain of a history: its values after 0, 1, .. and all entries
abbrev pub chain : List ℕ → List (List ℕ) → List (List ℕ)
chain genesis entries = chain_after (genesis_value genesis) entries

-- the chain's value after the last entry, from a first value on
unfoldable pub value_after : List ℕ → List (List ℕ) → List ℕ
value_after value [] = value
value_after value (e ∷ es) = value_after (next_value value e) es

-- the last value of a history's chain
abbrev pub last_value : List ℕ → List (List ℕ) → List ℕ
last_value genesis entries = value_after (genesis_value genesis) entries

-- what is hashed to commit to an epoch's key
abbrev pub commitment_string : List ℕ → ℕ → List ℕ → List ℕ
commitment_string document epoch key = 0x04 ∷ document ++ to_be_bytes w32 epoch ++ key

-- the commitment to an epoch's key
abbrev pub commitment_of : List ℕ → ℕ → List ℕ → List ℕ
commitment_of document epoch key = sha256 (commitment_string document epoch key)
