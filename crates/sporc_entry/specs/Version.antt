-- The versions of entries.
--
-- | Version | Of an entry | Its author's device | Its kinds of change |
-- | 1 | up to the document's Upgrade | not named: the author's first | 1 to 3, and 6 |
-- | 2 | behind it | named | 1 to 5 |
use Rattle.std.specs.Prelude.{ℕ, ◌+◌, ◌==◌, Bool, ◌&&◌, ◌||◌, nat_le, if◌then◌else◌}
use Rattle.sporc_member.specs.declared.device.TheConstants.{FIRST_DEVICE}
use Rattle.sporc_entry.specs.declared.version.TheConstants.{FIRST_VERSION, DEVICES_VERSION, ADD}
use Rattle.sporc_entry.specs.declared.version.TheConstants.{SET_ROLE, DROP_DEVICE, UPGRADE}

-- that of an entry behind a history that holds an Upgrade, or none
abbrev pub version_of : Bool → ℕ
version_of upgraded = if upgraded then DEVICES_VERSION else FIRST_VERSION

-- whether an entry of this version names its author's device
abbrev pub names_device : ℕ → Bool
names_device version = version == DEVICES_VERSION

-- whether there is this version, and an entry of it can be by this device
abbrev pub fits_version : ℕ → ℕ → Bool
fits_version version device =
    names_device version || ((version == FIRST_VERSION) && (device == FIRST_DEVICE))

-- whether an entry of this version may be a change of this kind
abbrev pub has_kind : ℕ → ℕ → Bool
has_kind version kind =
    if names_device version then nat_le ADD kind && nat_le kind DROP_DEVICE
    else (nat_le ADD kind && nat_le kind SET_ROLE) || (kind == UPGRADE)

-- the length of what stands before the length of the body
abbrev pub header_len : ℕ → ℕ
header_len version = if names_device version then 69 else 68

-- the place of the first byte of the body
abbrev pub body_place : ℕ → ℕ
body_place version = header_len version + 4
