-- What the files of a document hold, and the faults of those that are read.
use Rattle.std.specs.Prelude.{◌≡◌, ℕ, length, nat_lt, List, map, Option, None, Some, Result, Err}
use Rattle.std.specs.Prelude.{if◌then◌else◌}
use Rattle.std.specs.Global.{Vec}
use Rattle.sporc_bytes.specs.Fields.{◌>>=◌, fault_as}
use Rattle.sporc_outside.specs.Counts.{Rose}
use Rattle.sporc_outside.specs.Files.{file_in}
use Rattle.sporc_outside.specs.Folders.{FolderTold}
use Rattle.sporc_outside.specs.Told.{IfTold}
use Rattle.sporc_outside.specs.Uses.{Use}
use Rattle.sporc_outside.specs.declared.file_fault.TheConstants.{MAX_FILE}
use Rattle.sporc_outside.specs.declared.named_file.NamedFile.{NamedFile}
use Rattle.sporc_entry.specs.declared.genesis.Genesis.{Genesis}
use Rattle.sporc_store.specs.SavedFile.{saved_in}
use Rattle.sporc_files.specs.declared.fault.Fault.{Fault}
use Rattle.sporc_files.specs.declared.fault.Fault.TheVariants as faults
use Rattle.sporc_files.specs.declared.file.File.{File}
use Rattle.sporc_files.specs.declared.file.File.TheVariants as files
use Rattle.sporc_files.specs.Faults.{AnswersUnlessOutside, whole}
use Rattle.sporc_files.specs.Reading.{any_bytes, genesis_file}

-- ---- a folder

-- told files hold this at a name: the bytes of a file, or none
abbrev pub IsFileAt : Option (List NamedFile) → List ℕ → Option (List ℕ) → Type 0
IsFileAt told name content = IfTold told (λ files. file_in files name ≡ content)

-- an answer to what a folder held at a name before
abbrev pub AnswersOfFile : {X Y : Type 0} → (X → Y) → Use FolderTold → List ℕ
    → Result X Fault → (Option (List ℕ) → Result Y Fault) → Type 0
AnswersOfFile view folder name answer says =
    (content : Option (List ℕ)) × IsFileAt folder.before.files name content
    × AnswersUnlessOutside view (Rose folder.before.faults folder.after.faults) answer
    (says content)

-- ---- files

-- what the bytes of a file say, if it is there, and not too long
abbrev pub said : {A : Type 0} → (List ℕ → Result A ℕ) → File → Option (List ℕ) → Result A Fault
said parse file None = Err (faults.Missing file)
said parse file (Some bytes) =
    if nat_lt MAX_FILE (length bytes) then Err (faults.TooLong file)
    else fault_as (faults.Malformed file) (parse bytes)

-- the genesis of a document
abbrev pub genesis_in : Option (List ℕ) → Result Genesis Fault
genesis_in content = said genesis_file files.Genesis content

-- the bytes of a file
abbrev pub bytes_in : File → Option (List ℕ) → Result (List ℕ) Fault
bytes_in file content = said any_bytes file content

-- entries as a call gives them
abbrev pub entries_of : Vec (Vec ℕ) → List (List ℕ)
entries_of entries = map (λ entry. entry.items) entries.items

-- the entries of a document's saved history, unchecked
abbrev pub entries_in : File → List ℕ → Option (List ℕ) → Result (List (List ℕ)) Fault
entries_in file document content =
    bytes_in file content >>= λ bytes. whole file (saved_in document bytes)
