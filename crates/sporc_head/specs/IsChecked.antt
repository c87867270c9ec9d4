-- An entry that was checked at a history.
use Rattle.std.specs.Prelude.{◌≡◌, ℕ, ◌+◌, ◌≤◌, List, length, None, Ok}
use Rattle.sporc_hash.specs.Chain.{next_value}
use Rattle.sporc_entry.specs.declared.genesis.Genesis.{Genesis}
use Rattle.sporc_entry.specs.declared.limits.TheConstants.{MAX_ENTRY}
use Rattle.sporc_entry.specs.Entry.{entry_of}
use Rattle.sporc_head.specs.CheckedModel.{CheckedModel}
use Rattle.sporc_head.specs.History.{hash_of}
use Rattle.sporc_head.specs.HeadChecks.{head_fault}

-- it is what its bytes spell, it has the next value of the chain, and it fails no check at the next
-- position
pub record IsChecked (g : Genesis) (entries : List (List ℕ)) (c : CheckedModel) : Type 0 where
  pub read : entry_of c.bytes ≡ Ok c.entry
  pub sized : length c.bytes ≤ MAX_ENTRY
  pub hash : c.hash ≡ next_value (hash_of g entries) c.bytes
  pub passed : head_fault g None entries (length entries + 1) c.bytes ≡ None
