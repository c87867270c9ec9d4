-- What a summary says: whose it is, and the values of a history's chain.
use Rattle.std.specs.Prelude.{◌≡◌, ℕ, ◌+◌, ◌^◌, ◌<◌, ◌≤◌, List, length}
use Rattle.std.specs.List.{AllByRecursion}
use Rattle.sporc_hash.specs.Chain.{chain}
use Rattle.sporc_entry.specs.declared.genesis.Genesis.{Genesis}
use Rattle.sporc_entry.specs.Genesis.{genesis_bytes}
use Rattle.sporc_head.specs.declared.limits.TheConstants.{MAX_ENTRIES}

-- a document, the device of a member that signs, and the values of a chain, before the first entry
-- and after each one
pub record SummaryModel : Type 0 where
  pub document : List ℕ
  pub author : ℕ
  pub device : ℕ
  pub hashes : List (List ℕ)

-- the summary of a history, by a device of a member
abbrev pub summary_of : Genesis → List (List ℕ) → ℕ → ℕ → SummaryModel
summary_of genesis entries author device = record {
  document = genesis.document;
  author = author;
  device = device;
  hashes = chain (genesis_bytes genesis) entries;
}

-- so many values as a history's chain can have
pub record IsChainLong (hashes : List (List ℕ)) : Type 0 where
  pub positive : 1 ≤ length hashes
  pub within : length hashes ≤ MAX_ENTRIES + 1

-- a summary that has a spelling
pub record IsSummary (x : SummaryModel) : Type 0 where
  pub document : length x.document ≡ 16
  pub author : x.author < 2 ^ 16
  pub device : x.device < 2 ^ 8
  pub count : IsChainLong x.hashes
  pub hashes : AllByRecursion (λ h. length h ≡ 32) x.hashes
