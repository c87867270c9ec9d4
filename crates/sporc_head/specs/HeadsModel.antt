-- What contracts see of a history with what its checks look up, and what its fields keep.
use Rattle.std.specs.Prelude.{◌≡◌, ℕ, ◌-◌, ◌≤◌, nat_eq, List, Option, length, map, min, vec_len}
use Rattle.std.specs.Prelude.{vec_capacity}
use Rattle.std.specs.HashMap.{get, spare}
use Rattle.std.specs.List.{All}
use Rattle.sporc_hash.specs.Chain.{chain}
use Rattle.sporc_member.specs.Roster.{Roster}
use Rattle.sporc_entry.specs.declared.genesis.Genesis.{Genesis}
use Rattle.sporc_entry.specs.declared.limits.TheConstants.{MAX_ENTRY}
use Rattle.sporc_entry.specs.Genesis.{genesis_bytes, IsGenesis}
use Rattle.sporc_head.specs.declared.limits.TheConstants.{MAX_ENTRIES}
use Rattle.sporc_head.specs.declared.heads.Heads.TheInside.{Inside}
use Rattle.sporc_head.specs.declared.tables.Removal.{Removal}
use Rattle.sporc_head.specs.declared.tables.Tally.{Tally}
use Rattle.sporc_head.specs.History.{roster_of, barrier_of, epoch_of}
use Rattle.sporc_head.specs.TablesMatch.{TablesMatch}

-- a document's genesis, the entries of a history, and how many more it takes without memory
pub record HeadsModel : Type 0 where
  pub genesis : Genesis
  pub entries : List (List ℕ)
  pub spare : ℕ

-- the entries
abbrev pub entries_in : Inside → List (List ℕ)
entries_in a = map (λ v. v.items) a.entries.items

-- the room that each table has
abbrev pub spare_in : Inside → ℕ
spare_in a = min
    (min (vec_capacity a.entries - vec_len a.entries) (vec_capacity a.hashes - vec_len a.hashes))
    (min a.roster.spare
    (min (spare a.tables.tallies) (vec_capacity a.tables.removals - vec_len a.tables.removals)))

abbrev pub model_of : Inside → HeadsModel
model_of a = record { genesis = a.genesis; entries = entries_in a; spare = spare_in a }

-- what is looked up is what the entries say
pub record HeadsInvariant (g : Genesis) (entries hashes : List (List ℕ)) (roster : Roster)
    (barrier epoch : ℕ) (tallies : ℕ → Option Tally) (removals : List Removal) : Type 0 where
  pub genesis : IsGenesis g
  pub chained : hashes ≡ chain (genesis_bytes g) entries
  pub members : roster ≡ roster_of g entries
  pub change : barrier ≡ barrier_of entries
  pub changes : epoch ≡ epoch_of entries
  pub tables : TablesMatch tallies removals entries
  pub room : length entries ≤ MAX_ENTRIES
  pub sized : All (λ b. length b ≤ MAX_ENTRY) entries

abbrev pub invariant_of : Inside → Type 0
invariant_of a = HeadsInvariant a.genesis (entries_in a) a.hashes.items a.roster.roster a.barrier
    a.epoch (get nat_eq a.tables.tallies) a.tables.removals.items
