-- What a file says.
use Rattle.std.specs.Prelude.{◌≡◌, ℕ, ◌==◌, ◌≤◌, List, length, find, Bool, true, Option, None, Some}
use Rattle.std.specs.Prelude.{Result, Ok, Err, bytes_eq, if◌then◌else◌}
use Rattle.lms_tree.specs.LmsPrivate.{LmsPrivate, lms_public_of}
use Rattle.lms_tree.specs.declared.public_key.LmsPublic.{LmsPublic}
use Rattle.lms_tree.specs.LmsPublic.{public_key_bytes}
use Rattle.sporc_bytes.specs.Fields.{◌>>=◌, fault_as, only_if}
use Rattle.sporc_member.specs.declared.device.Device.{Device}
use Rattle.sporc_member.specs.declared.device.TheConstants.{FIRST_DEVICE}
use Rattle.sporc_member.specs.declared.founder.Founder.{Founder}
use Rattle.sporc_outside.specs.Counts.{Rose}
use Rattle.sporc_outside.specs.Files.{HasFile, HasNoFile, IsTooLong}
use Rattle.sporc_outside.specs.Folders.{FolderTold}
use Rattle.sporc_outside.specs.Uses.{Use}
use Rattle.sporc_outside.specs.declared.file_fault.TheConstants.{MAX_FILE}
use Rattle.sporc_outside.specs.declared.named_file.NamedFile.{NamedFile}
use Rattle.sporc_entry.specs.declared.fault.GenesisFault.{GenesisFault}
use Rattle.sporc_entry.specs.declared.fault.GenesisFault.TheVariants as geneses
use Rattle.sporc_entry.specs.declared.genesis.Genesis.{Genesis}
use Rattle.sporc_entry.specs.Genesis.{genesis_of}
use Rattle.sporc_keys.specs.KeyFile.{key_file_of, private_in}
use Rattle.sporc_files.specs.declared.fault.Fault.{Fault}
use Rattle.sporc_files.specs.declared.fault.Fault.TheVariants as faults
use Rattle.sporc_files.specs.declared.file.File.{File}
use Rattle.sporc_files.specs.Names.{FileNames, file_name}

-- ---- what the bytes of a file say, or the place of the first field that is cut short or forbidden

-- the bytes themselves
abbrev pub any_bytes : List ℕ → Result (List ℕ) ℕ
any_bytes bytes = Ok bytes

-- the place of a genesis's fault: 0, if the fault is not one of its fields
abbrev pub genesis_place : GenesisFault → ℕ
genesis_place (geneses.Malformed at) = at
genesis_place geneses.NoAdmin = 0
genesis_place (geneses.BadKey member) = 0
genesis_place geneses.Memory = 0

abbrev pub genesis_file : List ℕ → Result Genesis ℕ
genesis_file bytes = fault_as genesis_place (genesis_of bytes)

-- the private key of a device
abbrev pub key_file : Device → List ℕ → Result LmsPrivate ℕ
key_file device bytes = do
  file ← key_file_of device bytes
  Ok (private_in file)

-- the founder with this number
abbrev pub founder_with : ℕ → List Founder → Option Founder
founder_with member founders = find (λ f. f.member == member) founders

-- the founder whose key a device has, which is its member's first
abbrev pub founder_of : Device → List Founder → Option Founder
founder_of device founders =
    if device.number == FIRST_DEVICE then founder_with device.member founders else None

-- a key is that of a founder, if there is one
abbrev pub is_key_of : Option Founder → LmsPublic → Bool
is_key_of None key = true
is_key_of (Some founder) key = bytes_eq founder.key (public_key_bytes key)

-- the private key of a device in a document: of a founder's first one any other key than the
-- founder's is forbidden where the member's number stands
abbrev pub own_key_file : List Founder → Device → List ℕ → Result LmsPrivate ℕ
own_key_file founders device bytes = do
  key ← key_file device bytes
  only_if (is_key_of (founder_of device founders) (lms_public_of key)) 4 key

-- ---- reading a file

-- told files have a file with this name that says this
abbrev pub SaysFile : {A : Type 0} → (List ℕ → Result A ℕ) → Option (List NamedFile) → List ℕ
    → A → Type 0
SaysFile parse files name a =
    (bytes : List ℕ) × (length bytes ≤ MAX_FILE) × HasFile files name bytes × (parse bytes ≡ Ok a)

-- why a file of a folder says nothing: memory ran out, a call failed, or of this file it is not
-- there, it is too long, or it is malformed at this place
abbrev pub IsFileFault : {A : Type 0} → (List ℕ → Result A ℕ) → Use FolderTold → FileNames → File
    → Fault → Type 0
IsFileFault parse folder names file faults.Memory = Unit {0}
IsFileFault parse folder names file faults.Outside =
    Rose folder.before.faults folder.after.faults
IsFileFault parse folder names file (faults.Missing other) =
    (other ≡ file) × HasNoFile folder.before.files (file_name names file)
IsFileFault parse folder names file (faults.TooLong other) =
    (other ≡ file) × (len : ℕ) × IsTooLong folder.before.files (file_name names file) len
IsFileFault parse folder names file (faults.Malformed other at) =
    (other ≡ file) × (bytes : List ℕ) × (length bytes ≤ MAX_FILE)
    × HasFile folder.before.files (file_name names file) bytes × (parse bytes ≡ Err at)
IsFileFault parse folder names file fault = ⊥

-- why a file is not handed out to be appended to: memory ran out, a call failed, or it is too long
abbrev pub IsAppendingFault : Use FolderTold → FileNames → File → Fault → Type 0
IsAppendingFault folder names file faults.Memory = Unit {0}
IsAppendingFault folder names file faults.Outside = Rose folder.before.faults folder.after.faults
IsAppendingFault folder names file (faults.TooLong other) =
    (other ≡ file) × (len : ℕ) × IsTooLong folder.before.files (file_name names file) len
IsAppendingFault folder names file fault = ⊥

-- what a file that may be missing says: something, or it is not there
abbrev pub SaysFileIfThere : {A : Type 0} → (List ℕ → Result A ℕ) → Option (List NamedFile) → List ℕ
    → Option A → Type 0
SaysFileIfThere parse files name None = HasNoFile files name
SaysFileIfThere parse files name (Some a) = SaysFile parse files name a
