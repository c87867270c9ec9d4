-- What a command writes.
use Rattle.std.specs.Prelude.{◌≡◌, ◌⊎◌, ℕ, List, [], ◌∷◌, Option, option_map}
use Rattle.sporc_outside.specs.Counts.{Rose}
use Rattle.sporc_outside.specs.Files.{ChangesFile, HasSomeFile, with_file}
use Rattle.sporc_outside.specs.Folders.{FolderTold}
use Rattle.sporc_outside.specs.Uses.{Use}
use Rattle.sporc_outside.specs.declared.named_file.NamedFile.{NamedFile}
use Rattle.sporc_files.specs.declared.fault.Fault.{Fault}
use Rattle.sporc_files.specs.declared.fault.Fault.TheVariants as faults
use Rattle.sporc_files.specs.declared.file.File.{File}
use Rattle.sporc_files.specs.Names.{FileNames, file_name}

-- files with one more, in place of the one with its name
abbrev pub with_one : List NamedFile → NamedFile → List NamedFile
with_one files f = with_file files f.name f.bytes

-- and with these, one after another
abbrev pub with_files : List NamedFile → List NamedFile → List NamedFile
with_files files [] = files
with_files files (f ∷ fs) = with_files (with_one files f) fs

-- told files became those with these, all of which were written, and nothing else
abbrev pub Stores : List NamedFile → Option (List NamedFile) → Option (List NamedFile) → Type 0
Stores new before after = after ≡ option_map (λ files. with_files files new) before

-- the first of these were written whole, some or none but not all, and nothing else was written
abbrev pub StoresFirst : List NamedFile → Option (List NamedFile) → Option (List NamedFile) → Type 0
StoresFirst [] before after = ⊥
StoresFirst (f ∷ fs) before after =
    (after ≡ before) ⊎ StoresFirst fs (option_map (λ files. with_one files f) before) after

-- some of these, from the first on, were written whole, of the next one anything may stand, and
-- nothing else was written
abbrev pub StoresPrefix : List NamedFile → Option (List NamedFile)
    → Option (List NamedFile) → Type 0
StoresPrefix [] before after = after ≡ before
StoresPrefix (f ∷ fs) before after = ChangesFile before after f.name
    ⊎ StoresPrefix fs (option_map (λ files. with_one files f) before) after

-- a file of a command with these bytes
abbrev pub file_with : FileNames → File → List ℕ → NamedFile
file_with names file bytes = record { name = file_name names file; bytes = bytes }

-- why a file is not written as a new one
abbrev pub IsNewFault : Use FolderTold → FileNames → File → Fault → Type 0
IsNewFault folder names file faults.Memory = Unit {0}
IsNewFault folder names file faults.Outside = Rose folder.before.faults folder.after.faults
IsNewFault folder names file (faults.Exists other) =
    (other ≡ file) × HasSomeFile folder.before.files (file_name names file)
IsNewFault folder names file fault = ⊥

-- what stands of a file that was not written: only if a call failed, anything
abbrev pub LeavesFile : List ℕ → Option (List NamedFile) → Option (List NamedFile) → Fault → Type 0
LeavesFile name before after faults.Outside = ChangesFile before after name
LeavesFile name before after fault = after ≡ before
