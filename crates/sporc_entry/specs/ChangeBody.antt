-- The body of a change: its bytes, and what bytes say.
--
-- | Field | Bytes | Rule |
-- | kind | 1 | 1 a new member, 2 a member leaves, 3 another role, 4 a further device, 5 a device less, 6 the document's Upgrade; one that the entry's version has |
-- | member | 2 | but for an Upgrade: not 0 |
-- | role | 1 | of a new member, and of another role: 1, 2 or 3 |
-- | device | 1 | of a further device, and of a device less |
-- | key | 56 | of a new member, and of a further device |
-- | commitment | 32 | |
-- | previous key, sealed | 32 | |
-- | count | 2 | at most MAX_MEMBERS |
-- | wraps, each | 2 member, 32 sealed key | |
use Rattle.std.specs.Prelude.{◌≡◌, ℕ, ◌<◌, ◌≤◌, ◌^◌, ◌==◌, true, List, ◌∷◌, ◌++◌, length, Result}
use Rattle.std.specs.Prelude.{Ok, if◌then◌else◌}
use Rattle.std.specs.List.{AllByRecursion, flat_map}
use Rattle.std.specs.Int.{w8, w16, to_be_bytes}
use Rattle.sporc_bytes.specs.Fields.{Reading, ◌>>=◌, bytes_at, number_at, only_if, end_at}
use Rattle.sporc_bytes.specs.Fields.{number_within, values_at}
use Rattle.sporc_member.specs.declared.limits.TheConstants.{MAX_MEMBERS}
use Rattle.sporc_entry.specs.declared.limits.TheConstants.{HIGHEST_MEMBER}
use Rattle.sporc_member.specs.declared.change.Change.{Change}
use Rattle.sporc_member.specs.declared.change.Change.TheVariants.{Add, Remove, SetRole, AddDevice}
use Rattle.sporc_member.specs.declared.change.Change.TheVariants.{DropDevice, Upgrade}
use Rattle.sporc_member.specs.Device.{IsMember}
use Rattle.sporc_member.specs.Role.{role_code_of}
use Rattle.sporc_entry.specs.declared.change.ChangeBody.{ChangeBody}
use Rattle.sporc_entry.specs.declared.wrap.Wrap.{Wrap}
use Rattle.sporc_entry.specs.declared.version.TheConstants.{ADD, REMOVE, SET_ROLE, ADD_DEVICE}
use Rattle.sporc_entry.specs.declared.version.TheConstants.{DROP_DEVICE, UPGRADE}
use Rattle.sporc_entry.specs.Fields.{role_at}
use Rattle.sporc_entry.specs.Version.{has_kind}

-- ---- reading

-- a kind of change that an entry of this version has
unfoldable pub kind_at : ℕ → Reading → Result (ℕ × Reading) ℕ
kind_at version r = do
  kind ← number_at w8 r
  had ← only_if (has_kind version kind.0) r.at kind.0
  Ok (had, kind.1)

-- what stands behind the device in a change of this kind
unfoldable pub change_of_device : ℕ → ℕ → ℕ → Reading → Result (Change × Reading) ℕ
change_of_device kind member device r =
    if kind == ADD_DEVICE then (do
      key ← bytes_at 56 r
      Ok (AddDevice member device key.0, key.1))
    else Ok (DropDevice member device, r)

-- what stands behind the member in a change of this kind
unfoldable pub change_of_member : ℕ → ℕ → Reading → Result (Change × Reading) ℕ
change_of_member kind member r =
    if kind == ADD then (do
      role ← role_at r
      key ← bytes_at 56 role.1
      Ok (Add member role.0 key.0, key.1))
    else if kind == REMOVE then Ok (Remove member, r)
    else if kind == SET_ROLE then (do
      role ← role_at r
      Ok (SetRole member role.0, role.1))
    else (do
      device ← number_at w8 r
      change_of_device kind member device.0 device.1)

-- what stands behind the kind in a change of this one
unfoldable pub change_of_kind : ℕ → Reading → Result (Change × Reading) ℕ
change_of_kind kind r =
    if kind == UPGRADE then Ok (Upgrade, r) else (do
      member ← number_within 1 HIGHEST_MEMBER w16 r
      change_of_member kind member.0 member.1)

-- a change, in an entry of this version
unfoldable pub change_at : ℕ → Reading → Result (Change × Reading) ℕ
change_at version r = do
  kind ← kind_at version r
  change_of_kind kind.0 kind.1

-- a sealed key and whom it is for
unfoldable pub wrap_at : Reading → Result (Wrap × Reading) ℕ
wrap_at r = do
  member ← number_at w16 r
  sealed ← bytes_at 32 member.1
  Ok (record { member = member.0; sealed = sealed.0 }, sealed.1)

-- the fields of a change's body, in an entry of this version
unfoldable pub change_body_at : ℕ → Reading → Result (ChangeBody × Reading) ℕ
change_body_at version r = do
  change ← change_at version r
  commitment ← bytes_at 32 change.1
  previous ← bytes_at 32 commitment.1
  count ← number_within 0 MAX_MEMBERS w16 previous.1
  wraps ← values_at wrap_at count.0 count.1
  Ok (
    record { change = change.0; commitment = commitment.0; previous = previous.0; wraps = wraps.0 },
    wraps.1,
  )

-- the body of a change that bytes spell in an entry of this version, the first of them at this
-- place
unfoldable pub change_body_from : ℕ → ℕ → List ℕ → Result ChangeBody ℕ
change_body_from version at bytes = do
  body ← change_body_at version (record { rest = bytes; at = at })
  end ← end_at body.1
  Ok body.0

-- ---- writing

-- the kind of a change
abbrev pub kind_of : Change → ℕ
kind_of (Add member role key) = ADD
kind_of (Remove member) = REMOVE
kind_of (SetRole member role) = SET_ROLE
kind_of (AddDevice member device key) = ADD_DEVICE
kind_of (DropDevice member device) = DROP_DEVICE
kind_of Upgrade = UPGRADE

-- what stands behind it, and the bytes after that
abbrev pub change_fields : Change → List ℕ → List ℕ
change_fields (Add member role key) rest =
    to_be_bytes w16 member ++ (role_code_of role ∷ key ++ rest)
change_fields (Remove member) rest = to_be_bytes w16 member ++ rest
change_fields (SetRole member role) rest = to_be_bytes w16 member ++ (role_code_of role ∷ rest)
change_fields (AddDevice member device key) rest = to_be_bytes w16 member ++ (device ∷ key ++ rest)
change_fields (DropDevice member device) rest = to_be_bytes w16 member ++ (device ∷ rest)
change_fields Upgrade rest = rest

-- the bytes of a change, and those after them
abbrev pub change_bytes : Change → List ℕ → List ℕ
change_bytes change rest = kind_of change ∷ change_fields change rest

-- the bytes of a sealed key and of whom it is for
abbrev pub wrap_bytes : Wrap → List ℕ
wrap_bytes w = to_be_bytes w16 w.member ++ w.sealed

-- the bytes of a change's body
unfoldable pub change_body_bytes : ChangeBody → List ℕ
change_body_bytes c = change_bytes c.change (c.commitment
    ++ (c.previous ++ (to_be_bytes w16 (length c.wraps) ++ flat_map wrap_bytes c.wraps)))

-- ---- what has a spelling

-- a change whose member's number, device's number and key are such, as far as it has them
abbrev pub ChangeWith : (ℕ → Type 0) → (ℕ → Type 0) → (List ℕ → Type 0) → Change → Type 0
ChangeWith Member Device Key (Add member role key) = Member member × Key key
ChangeWith Member Device Key (Remove member) = Member member
ChangeWith Member Device Key (SetRole member role) = Member member
ChangeWith Member Device Key (AddDevice member device key) =
    Member member × Device device × Key key
ChangeWith Member Device Key (DropDevice member device) = Member member × Device device
ChangeWith Member Device Key Upgrade = Unit {0}

-- a public key
abbrev pub IsKey : List ℕ → Type 0
IsKey key = length key ≡ 56

abbrev pub IsChange : Change → Type 0
IsChange change = ChangeWith IsMember (λ device. device < 2 ^ 8) IsKey change

pub record IsWrap (w : Wrap) : Type 0 where
  pub member : w.member < 2 ^ 16
  pub sealed : length w.sealed ≡ 32

-- in an entry of this version
pub record IsChangeBody (version : ℕ) (c : ChangeBody) : Type 0 where
  pub kind : has_kind version (kind_of c.change) ≡ true
  pub change : IsChange c.change
  pub commitment : length c.commitment ≡ 32
  pub previous : length c.previous ≡ 32
  pub count : length c.wraps ≤ MAX_MEMBERS
  pub wraps : AllByRecursion IsWrap c.wraps

-- bytes that spell the body of a change in an entry of this version
abbrev pub SpellsChange : ℕ → List ℕ → Type 0
SpellsChange version bytes =
    (c : ChangeBody) × IsChangeBody version c × (bytes ≡ change_body_bytes c)
