-- What a history, the list of its entries' bytes, oldest first, says of itself. Everything is
-- recomputed from the first entry.
use Rattle.std.specs.Prelude.{Result, Ok, Err, ℕ, suc, Bool, false, List, [], ◌∷◌, length, map}
use Rattle.std.specs.Prelude.{Option, if◌then◌else◌, is_some, option_map, count_by}
use Rattle.std.specs.List.{list_any}
use Rattle.sporc_hash.specs.Chain.{last_value}
use Rattle.sporc_member.specs.declared.change.Change.{Change}
use Rattle.sporc_member.specs.declared.device.Device.{Device}
use Rattle.sporc_member.specs.Device.{same_device}
use Rattle.sporc_member.specs.Roster.{Roster, roster_after, removes}
use Rattle.sporc_entry.specs.declared.entry.Entry.{Entry}
use Rattle.sporc_entry.specs.declared.genesis.Genesis.{Genesis}
use Rattle.sporc_entry.specs.Entry.{author_device, entry_of, change_of}
pub use Rattle.sporc_entry.specs.declared.committed.CommittedChange.{CommittedChange}
pub use Rattle.sporc_entry.specs.CommittedChanges.{committed_by, change_read, changes}
unfoldable pub use Rattle.sporc_entry.specs.CommittedChanges.{change_in}
use Rattle.sporc_entry.specs.Genesis.{genesis_bytes}

-- what an entry does to the members, if it is a change
abbrev pub member_change_of : Entry → Option Change
member_change_of e = option_map (λ c. c.change) (change_of e)

abbrev pub is_read_by : Device → Result Entry ℕ → Bool
is_read_by device (Ok e) = same_device (author_device e.header) device
is_read_by device (Err at) = false

-- whether an entry is by this device
unfoldable pub is_by : Device → List ℕ → Bool
is_by device bytes = is_read_by device (entry_of bytes)

-- how many changes a history has
abbrev pub epoch_of : List (List ℕ) → ℕ
epoch_of entries = length (changes entries)

-- the members after a history
abbrev pub roster_of : Genesis → List (List ℕ) → Roster
roster_of genesis es = roster_after genesis.founders (map (λ c. c.body.change) (changes es))

-- whether a history removes a device, or its member
abbrev pub is_removed : Device → List (List ℕ) → Bool
is_removed device entries = list_any (λ c. removes device c.body.change) (changes entries)

-- the position, after `at` entries, of the last entry that passes a test, or `found`
abbrev pub last_from : (List ℕ → Bool) → ℕ → ℕ → List (List ℕ) → ℕ
last_from p found at [] = found
last_from p found at (b ∷ bs) = last_from p (if p b then suc at else found) (suc at) bs

-- the position of the last change, 0 if there is none
abbrev pub barrier_of : List (List ℕ) → ℕ
barrier_of entries = last_from (λ b. is_some (change_in b)) 0 0 entries

-- the position of a device's last entry, 0 if there is none
abbrev pub last_of : Device → List (List ℕ) → ℕ
last_of device entries = last_from (is_by device) 0 0 entries

-- how many entries a device has
abbrev pub count_of : Device → List (List ℕ) → ℕ
count_of device entries = count_by (is_by device) entries

-- the chain's value after a history
abbrev pub hash_of : Genesis → List (List ℕ) → List ℕ
hash_of genesis entries = last_value (genesis_bytes genesis) entries
