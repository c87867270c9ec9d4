-- Entries: their bytes, what bytes say, and what an author signs.
--
-- | Place | Field | Bytes | Rule |
-- | 0 | version | 1 | 1, or 2 |
-- | 1 | document | 16 | |
-- | 17 | author | 2 | |
-- | 19 | device | 1 | of version 2 alone; what stands behind it begins a place later than said here |
-- | 19 | number | 4 | |
-- | 23 | base | 4 | |
-- | 27 | base hash | 32 | |
-- | 59 | epoch | 4 | |
-- | 63 | leaf | 4 | |
-- | 67 | kind | 1 | 1 an edit, 2 a change |
-- | 68 | body | counted | an edit's at most MAX_EDIT_BODY; a change's at most MAX_CHANGE_BODY, and read where it stands |
-- | after it | signature | counted | at most MAX_SIGNATURE |
use Rattle.std.specs.Prelude.{◌≡◌, ℕ, ◌<◌, ◌≤◌, ◌^◌, ◌==◌, true, List, [], ◌∷◌, ◌++◌, length}
use Rattle.std.specs.Prelude.{Option, None, Result, Ok, if◌then◌else◌}
use Rattle.std.specs.Result.{result_ok}
use Rattle.std.specs.Int.{w8, w16, w32, to_be_bytes}
use Rattle.sporc_bytes.specs.Fields.{Reading, ◌>>=◌, bytes_at, number_at, counted_at, end_at}
use Rattle.sporc_bytes.specs.Fields.{number_within}
use Rattle.sporc_member.specs.declared.device.Device.{Device}
use Rattle.sporc_member.specs.declared.device.TheConstants.{FIRST_DEVICE}
use Rattle.sporc_entry.specs.declared.change.ChangeBody.{ChangeBody}
use Rattle.sporc_entry.specs.declared.entry.Entry.{Entry}
use Rattle.sporc_entry.specs.declared.header.Header.{Header}
use Rattle.sporc_entry.specs.declared.limits.TheConstants.{MAX_EDIT_BODY, MAX_CHANGE_BODY}
use Rattle.sporc_entry.specs.declared.limits.TheConstants.{MAX_SIGNATURE}
use Rattle.sporc_entry.specs.declared.version.TheConstants.{FIRST_VERSION, DEVICES_VERSION}
use Rattle.sporc_entry.specs.ChangeBody.{change_body_from, SpellsChange}
use Rattle.sporc_entry.specs.Version.{names_device, fits_version, body_place}

-- ---- reading

-- the number of the author's device, in an entry of this version
abbrev pub device_at : ℕ → Reading → Result (ℕ × Reading) ℕ
device_at version r = if names_device version then number_at w8 r else Ok (FIRST_DEVICE, r)

-- what stands before the body
unfoldable pub header_at : Reading → Result (Header × Reading) ℕ
header_at r = do
  version ← number_within FIRST_VERSION DEVICES_VERSION w8 r
  document ← bytes_at 16 version.1
  author ← number_at w16 document.1
  device ← device_at version.0 author.1
  number ← number_at w32 device.1
  base ← number_at w32 number.1
  base_hash ← bytes_at 32 base.1
  epoch ← number_at w32 base_hash.1
  leaf ← number_at w32 epoch.1
  kind ← number_within 1 2 w8 leaf.1
  Ok (
    record {
      version = version.0;
      document = document.0;
      author = author.0;
      device = device.0;
      number = number.0;
      base = base.0;
      base_hash = base_hash.0;
      epoch = epoch.0;
      leaf = leaf.0;
      kind = kind.0;
    },
    kind.1,
  )

-- how long the body of an entry of this kind may be
abbrev pub body_limit : ℕ → ℕ
body_limit kind = if kind == 1 then MAX_EDIT_BODY else MAX_CHANGE_BODY

-- whether these bytes are the body behind this header: that of an edit may be anything
abbrev pub body_read : Header → List ℕ → Result (Unit {0}) ℕ
body_read h body =
    if h.kind == 1 then Ok tt else (do
      change ← change_body_from h.version (body_place h.version) body
      Ok tt)

-- the entry that bytes spell
unfoldable pub entry_of : List ℕ → Result Entry ℕ
entry_of bytes = do
  header ← header_at (record { rest = bytes; at = 0 })
  body ← counted_at (body_limit header.0.kind) header.1
  read ← body_read header.0 body.0
  signature ← counted_at MAX_SIGNATURE body.1
  end ← end_at signature.1
  Ok (record { header = header.0; body = body.0; signature = signature.0 })

-- what an entry changes, if it is a change
unfoldable pub change_of : Entry → Option ChangeBody
change_of e =
    if e.header.kind == 2 then result_ok (change_body_from e.header.version 0 e.body) else None

-- the device that signs an entry
abbrev pub author_device : Header → Device
author_device h = record { member = h.author; number = h.device }

-- ---- writing

-- the byte of the author's device, in an entry of a version that names it
abbrev pub device_bytes : ℕ → ℕ → List ℕ
device_bytes version device = if names_device version then device ∷ [] else []

-- the bytes of what stands before the body, and those after them
unfoldable pub header_bytes : Header → List ℕ → List ℕ
header_bytes h rest = h.version ∷ h.document ++ (to_be_bytes w16 h.author
    ++ (device_bytes h.version h.device ++ (to_be_bytes w32 h.number ++ (to_be_bytes w32 h.base
    ++ (h.base_hash ++ (to_be_bytes w32 h.epoch ++ (to_be_bytes w32 h.leaf ++ h.kind ∷ rest)))))))

-- a counted string, and the bytes after it
abbrev pub counted_bytes : List ℕ → List ℕ → List ℕ
counted_bytes bytes rest = to_be_bytes w32 (length bytes) ++ (bytes ++ rest)

-- the bytes of an entry
unfoldable pub entry_bytes : Entry → List ℕ
entry_bytes e = header_bytes e.header (counted_bytes e.body (counted_bytes e.signature []))

-- the string that the author of an entry signs: 3, and the entry without its signature
unfoldable pub signed_string : Entry → List ℕ
signed_string e = 3 ∷ header_bytes e.header (counted_bytes e.body [])

-- ---- what has a spelling

pub record IsHeader (h : Header) : Type 0 where
  pub version : fits_version h.version h.device ≡ true
  pub device : h.device < 2 ^ 8
  pub document : length h.document ≡ 16
  pub author : h.author < 2 ^ 16
  pub number : h.number < 2 ^ 32
  pub base : h.base < 2 ^ 32
  pub base_hash : length h.base_hash ≡ 32
  pub epoch : h.epoch < 2 ^ 32
  pub leaf : h.leaf < 2 ^ 32
  pub kind : (1 ≤ h.kind) × (h.kind ≤ 2)

pub record IsEntry (e : Entry) : Type 0 where
  pub header : IsHeader e.header
  pub body : length e.body ≤ body_limit e.header.kind
  pub change : e.header.kind ≡ 2 → SpellsChange e.header.version e.body
  pub signature : length e.signature ≤ MAX_SIGNATURE
