-- Files by name, as a folder tells them.
use Rattle.std.specs.Prelude.{◌≡◌, ◌≤◌, ◌<◌, ℕ, List, [], ◌∷◌, length, Option, None, Some, IsSome}
use Rattle.std.specs.Prelude.{false, if◌then◌else◌}
use Rattle.std.specs.Str.{bytes_eq}
use Rattle.sporc_outside.specs.Counts.{Rose}
use Rattle.sporc_outside.specs.Told.{IfBoth, IfTold}
use Rattle.sporc_outside.specs.declared.file_fault.FileFault.{FileFault}
use Rattle.sporc_outside.specs.declared.file_fault.FileFault.TheVariants.{Missing, Failed, TooLong}
use Rattle.sporc_outside.specs.declared.file_fault.FileFault.TheVariants.{Exists, Memory}
use Rattle.sporc_outside.specs.declared.file_fault.TheConstants.{MAX_FILE}
use Rattle.sporc_outside.specs.declared.named_file.NamedFile.{NamedFile}

-- the bytes of the file with this name, if there is one
abbrev pub file_in : List NamedFile → List ℕ → Option (List ℕ)
file_in [] name = None
file_in (f ∷ fs) name = if bytes_eq f.name name then Some f.bytes else file_in fs name

-- the same files, with these bytes in the one with this name
abbrev pub with_file : List NamedFile → List ℕ → List ℕ → List NamedFile
with_file [] name bytes = record { name = name; bytes = bytes } ∷ []
with_file (f ∷ fs) name bytes =
    if bytes_eq f.name name then record f { bytes = bytes } ∷ fs else f ∷ with_file fs name bytes

-- told files have these bytes at a name
abbrev pub HasFile : Option (List NamedFile) → List ℕ → List ℕ → Type 0
HasFile told name bytes = IfTold told (λ files. file_in files name ≡ Some bytes)

-- told files have some file at a name
abbrev pub HasSomeFile : Option (List NamedFile) → List ℕ → Type 0
HasSomeFile told name = IfTold told (λ files. IsSome (file_in files name))

-- told files have none at a name
abbrev pub HasNoFile : Option (List NamedFile) → List ℕ → Type 0
HasNoFile told name = IfTold told (λ files. file_in files name ≡ None)

-- a told file is longer than a file that is read, and has this length
abbrev pub IsTooLong : Option (List NamedFile) → List ℕ → ℕ → Type 0
IsTooLong files name len =
    (MAX_FILE < len) × (bytes : List ℕ) × (length bytes ≡ len) × HasFile files name bytes

-- told files became these, where only the one with this name may have changed
abbrev pub ChangesFile : Option (List NamedFile) → Option (List NamedFile) → List ℕ → Type 0
ChangesFile old new name = IfBoth old new (λ files more. (other : List ℕ)
    → bytes_eq name other ≡ false → file_in more other ≡ file_in files other)

-- Why a file is not read, where the count of faults went from `before` to `after`: it is not there,
-- a call failed, it is too long, or memory ran out
abbrev pub IsReadFault : Option (List NamedFile) → List ℕ → ℕ → ℕ → FileFault → Type 0
IsReadFault files name before after Missing = HasNoFile files name
IsReadFault files name before after Failed = Rose before after
IsReadFault files name before after (TooLong len) = IsTooLong files name len
IsReadFault files name before after Exists = ⊥
IsReadFault files name before after Memory = Unit {0}

-- why a file's disk is not handed out
abbrev pub IsDiskFault : Option (List NamedFile) → List ℕ → ℕ → ℕ → FileFault → Type 0
IsDiskFault files name before after Missing = HasNoFile files name
IsDiskFault files name before after Failed = Rose before after
IsDiskFault files name before after (TooLong len) = IsTooLong files name len
IsDiskFault files name before after Exists = ⊥
IsDiskFault files name before after Memory = ⊥

-- why a new file is not made
abbrev pub IsNewFault : Option (List NamedFile) → List ℕ → ℕ → ℕ → FileFault → Type 0
IsNewFault files name before after Missing = ⊥
IsNewFault files name before after Failed = Rose before after
IsNewFault files name before after (TooLong len) = ⊥
IsNewFault files name before after Exists = HasSomeFile files name
IsNewFault files name before after Memory = ⊥

-- a disk tells the bytes of a told file
abbrev pub IsDiskOf : Option (List NamedFile) → List ℕ → Option (List ℕ) → Type 0
IsDiskOf told name stored = IfBoth told stored
    (λ files bytes. (file_in files name ≡ Some bytes) × (length bytes ≤ MAX_FILE))

-- a disk is out
abbrev pub IsLent : Option (List (List ℕ)) → Type 0
IsLent None = Unit {0}
IsLent (Some []) = ⊥
IsLent (Some (name ∷ names)) = Unit {0}

-- the bytes of a disk, where it tells them, are those of a file
abbrev pub with_stored : List NamedFile → List ℕ → Option (List ℕ) → List NamedFile
with_stored files name None = files
with_stored files name (Some bytes) = with_file files name bytes

-- the disk of the first of these names is back, and its bytes are the file's
abbrev pub TakesBack : Option (List (List ℕ)) → Option (List NamedFile) → Option (List NamedFile)
    → Option (List ℕ) → Type 0
TakesBack (Some (name ∷ names)) (Some files) new stored = new ≡ Some (with_stored files name stored)
TakesBack (Some []) files new stored = Unit {0}
TakesBack None files new stored = Unit {0}
TakesBack (Some (name ∷ names)) None new stored = Unit {0}

-- ---- files that are appended to, and that are removed

-- why a file is not handed out to be appended to
abbrev pub IsAppendFault : Option (List NamedFile) → List ℕ → ℕ → ℕ → FileFault → Type 0
IsAppendFault files name before after Missing = ⊥
IsAppendFault files name before after Failed = Rose before after
IsAppendFault files name before after (TooLong len) = IsTooLong files name len
IsAppendFault files name before after Exists = ⊥
IsAppendFault files name before after Memory = ⊥

-- no bytes, if there are none
abbrev pub or_empty : Option (List ℕ) → List ℕ
or_empty None = []
or_empty (Some bytes) = bytes

-- the same files, and one of no bytes with this name unless there is one
abbrev pub made_unless : Option (List ℕ) → List NamedFile → List ℕ → List NamedFile
made_unless None files name = with_file files name []
made_unless (Some bytes) files name = files

abbrev pub made_in : List NamedFile → List ℕ → List NamedFile
made_in files name = made_unless (file_in files name) files name

-- a file to be appended to tells the bytes of a told file, or none where there is no such file
abbrev pub IsAppendedTo : Option (List NamedFile) → List ℕ → Option (List ℕ) → Type 0
IsAppendedTo told name stored = IfBoth told stored
    (λ files bytes. (bytes ≡ or_empty (file_in files name)) × (length bytes ≤ MAX_FILE))

-- the same files, with these bytes in the one with this name if there is one
abbrev pub with_bytes : Option (List ℕ) → List NamedFile → List ℕ → List ℕ → List NamedFile
with_bytes None files name bytes = files
with_bytes (Some old) files name bytes = with_file files name bytes

-- the file with this name is back, and these bytes, where it tells them, are its own if there still
-- is one
abbrev pub TakesFile : List ℕ → Option (List ℕ) → Option (List NamedFile)
    → Option (List NamedFile) → Type 0
TakesFile name stored None new = new ≡ None
TakesFile name None (Some files) new = new ≡ Some files
TakesFile name (Some bytes) (Some files) new =
    new ≡ Some (with_bytes (file_in files name) files name bytes)

-- the files without the first one with this name
abbrev pub without_file : List NamedFile → List ℕ → List NamedFile
without_file [] name = []
without_file (f ∷ fs) name = if bytes_eq f.name name then fs else f ∷ without_file fs name

-- the file with this name is gone
abbrev pub RemovesFile : List ℕ → Option (List NamedFile) → Option (List NamedFile) → Type 0
RemovesFile name None new = new ≡ None
RemovesFile name (Some files) new = new ≡ Some (without_file files name)
