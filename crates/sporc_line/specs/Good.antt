-- Histories that a member accepted.
use Rattle.std.specs.Prelude.{◌≡◌, ℕ, ◌+◌, ◌≤◌, false, List, ◌++◌, length, take, Option, None, Some}
use Rattle.std.specs.Prelude.{slice_get, IsSomeAnd}
use Rattle.sporc_hash.specs.Chain.{commitment_of}
use Rattle.sporc_hash.specs.Strings.{CollisionFree}
use Rattle.sporc_entry.specs.declared.genesis.Genesis.{Genesis}
use Rattle.sporc_head.specs.History.{epoch_of, is_removed}
use Rattle.sporc_line.specs.Kit.{Kit}
use Rattle.sporc_line.specs.Keys.{epoch_key}
use Rattle.sporc_line.specs.LineChecks.{first_fault}
use Rattle.sporc_line.specs.LineStrings.{line_strings}

-- there is a key of an epoch, and it meets a commitment
abbrev pub Meets : Genesis → ℕ → Option (List ℕ) → List ℕ → Type 0
Meets g epoch key commitment = IsSomeAnd key (λ k. commitment_of g.document epoch k ≡ commitment)

-- the key of epoch 0 meets the commitment of the genesis, and each entry failed no check where it
-- stands
pub record Good (genesis : Genesis) (kit : Kit) (entries : List (List ℕ)) : Type 0 where
  pub opens : Meets genesis 0 (epoch_key genesis kit entries 0) genesis.commitment
  pub each : (i : ℕ) (b : List ℕ) → slice_get entries i ≡ Some b
      → first_fault genesis kit (take i entries) (i + 1) b ≡ None

-- an entry that stands next behind these fails no check
abbrev pub PassesNext : Genesis → Kit → List (List ℕ) → List ℕ → Type 0
PassesNext genesis kit entries bytes =
    first_fault genesis kit entries (length entries + 1) bytes ≡ None

-- ---- two members with one history

-- it is good for both, and no two different strings that are hashed for them have one digest
pub record GoodForBoth (genesis : Genesis) (mine yours : Kit)
    (entries : List (List ℕ)) : Type 0 where
  pub mine_good : Good genesis mine entries
  pub yours_good : Good genesis yours entries
  pub collision_free : CollisionFree
      (line_strings genesis mine entries ++ line_strings genesis yours entries)

-- it removes neither of them
pub record RemovesNeither (mine yours : Kit) (entries : List (List ℕ)) : Type 0 where
  pub mine_stays : is_removed mine.me entries ≡ false
  pub yours_stays : is_removed yours.me entries ≡ false

-- they have the same key of each of its epochs
abbrev pub HaveSameKeys : Genesis → Kit → Kit → List (List ℕ) → Type 0
HaveSameKeys genesis mine yours entries = (epoch : ℕ) → epoch ≤ epoch_of entries
    → epoch_key genesis mine entries epoch ≡ epoch_key genesis yours entries epoch
