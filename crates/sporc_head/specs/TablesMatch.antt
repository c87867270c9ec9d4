-- Tables of what a history says of those who signed its entries, and of those who sign no more.
use Rattle.std.specs.Prelude.{◌≡◌, ℕ, ◌+◌, ◌*◌, ◌<◌, ◌==◌, Bool, true, ◌&&◌, List, [], ◌∷◌, ◌++◌}
use Rattle.std.specs.Prelude.{Option, None, Some}
use Rattle.std.specs.List.{list_any}
use Rattle.sporc_member.specs.declared.change.Change.{Change}
use Rattle.sporc_member.specs.declared.change.Change.TheVariants.{Remove, DropDevice}
use Rattle.sporc_member.specs.declared.device.Device.{Device}
use Rattle.sporc_head.specs.declared.limits.TheConstants.{DEVICE_NUMBERS}
use Rattle.sporc_head.specs.declared.tables.Removal.{Removal}
use Rattle.sporc_head.specs.declared.tables.Tally.{Tally}
use Rattle.sporc_head.specs.History.{count_of, last_of, is_removed}

-- the number of a device among those of all members
abbrev pub rank_of : Device → ℕ
rank_of device = device.member * DEVICE_NUMBERS + device.number

-- a tally, or that of a device without entries
abbrev pub tally_or_none : Option Tally → Tally
tally_or_none None = record { count = 0; last = 0 }
tally_or_none (Some tally) = tally

-- the tally of a device, in a table by ranks
abbrev pub tally_in : (ℕ → Option Tally) → Device → Tally
tally_in tallies device = tally_or_none (tallies (rank_of device))

-- whether one that was removed has this number: a member has all numbers
abbrev pub covers_number : ℕ → Option ℕ → Bool
covers_number number None = true
covers_number number (Some n) = n == number

-- whether a removal is of this device, or of its member
abbrev pub covers : Device → Removal → Bool
covers device r = (r.member == device.member) && covers_number device.number r.device

-- whether a device is among those removed, or its member is
abbrev pub is_gone : Device → List Removal → Bool
is_gone device removals = list_any (covers device) removals

-- those removed, after a change
abbrev pub with_removal : Change → List Removal → List Removal
with_removal (Remove member) removals = removals ++ record { member = member; device = None } ∷ []
with_removal (DropDevice member number) removals =
    removals ++ record { member = member; device = Some number } ∷ []
with_removal _ removals = removals

-- how many entries each device has, where its last one stands, and whether a change removed it or
-- its member
pub record TablesMatch (tallies : ℕ → Option Tally) (removals : List Removal)
    (entries : List (List ℕ)) : Type 0 where
  pub count : (d : Device) → d.number < DEVICE_NUMBERS
      → (tally_in tallies d).count ≡ count_of d entries
  pub last : (d : Device) → d.number < DEVICE_NUMBERS
      → (tally_in tallies d).last ≡ last_of d entries
  pub gone : (d : Device) → is_gone d removals ≡ is_removed d entries
