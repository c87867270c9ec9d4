-- What `keygen` does: it makes a device's key of two words of the chance.
use Rattle.std.specs.Prelude.{◌≡◌, ◌⊎◌, ℕ, List, [], ◌∷◌, ◌++◌, Option, Result, Ok, Err, codes}
use Rattle.hex.specs.Hex.{encode_lower}
use Rattle.std.specs.Io.KnownBytes.{Appends}
use Rattle.lms_tree.specs.declared.public_key.LmsPublic.{LmsPublic}
use Rattle.lms_tree.specs.LmsPublic.{public_key_bytes}
use Rattle.sporc_outside.specs.Counts.{Rose}
use Rattle.sporc_outside.specs.Files.{ChangesFile, HasNoFile, HasSomeFile}
use Rattle.sporc_outside.specs.Writing.{AppendsPrefix}
use Rattle.sporc_outside.specs.declared.named_file.NamedFile.{NamedFile}
use Rattle.sporc_outside.specs.Uses.{Use}
use Rattle.sporc_outside.specs.Streams.{StreamTold}
use Rattle.sporc_outside.specs.Folders.{FolderTold}
use Rattle.sporc_outside.specs.Chances.{ChanceTold}
use Rattle.sporc_member.specs.declared.device.Device.{Device}
use Rattle.sporc_keys.specs.declared.new_key.NewKey.{NewKey}
use Rattle.sporc_keys.specs.KeyFile.{key_file_bytes}
use Rattle.sporc_keys.specs.NewKey.{IsKeygen}
use Rattle.sporc_files.specs.declared.fault.Fault.{Fault}
use Rattle.sporc_files.specs.declared.fault.Fault.TheVariants as faults
use Rattle.sporc_files.specs.declared.file.File.{File}
use Rattle.sporc_files.specs.declared.file.File.TheVariants as files
use Rattle.sporc_files.specs.Faults.{IsOutsideFault}
use Rattle.sporc_files.specs.Names.{FileNames, file_name, names_of_document}
use Rattle.sporc_files.specs.Writing.{Stores, file_with}
use Rattle.sporc_words.specs.declared.keygen.Keygen.{Keygen}

-- the names of the files of a key
abbrev pub key_names : FileNames → Device → List (List ℕ)
key_names names device =
    file_name names (files.Key device) ∷ file_name names (files.Leaf device) ∷ []

-- the key file, and then the leaf file
abbrev pub key_files : FileNames → NewKey → List NamedFile
key_files names key =
    file_with names (files.Key key.file.device) (key_file_bytes key.file)
    ∷ file_with names (files.Leaf key.file.device) key.leaves ∷ []

-- `key`, and the 112 digits of the public key
abbrev pub key_line : LmsPublic → List ℕ
key_line public = codes "key " ++ (encode_lower (public_key_bytes public) ++ codes "\n")

-- ---- the files

-- both files are new, and were written
pub record StoresKey (names : FileNames) (key : NewKey)
    (before after : Option (List NamedFile)) : Type 0 where
  pub new_key : HasNoFile before (file_name names (files.Key key.file.device))
  pub new_leaves : HasNoFile before (file_name names (files.Leaf key.file.device))
  pub stored : Stores (key_files names key) before after

-- the key file is new, and was written, and nothing else was
pub record StoresKeyFile (names : FileNames) (key : NewKey)
    (before after : Option (List NamedFile)) : Type 0 where
  pub new_key : HasNoFile before (file_name names (files.Key key.file.device))
  pub stored : Stores
      (file_with names (files.Key key.file.device) (key_file_bytes key.file) ∷ []) before after

-- there is a key file, and nothing was written; or there is a leaf file, and the key file alone was
-- written
abbrev pub IsThere : FileNames → NewKey → Option (List NamedFile) → Option (List NamedFile)
    → File → Type 0
IsThere names key before after (files.Key device) = (device ≡ key.file.device)
    × HasSomeFile before (file_name names (files.Key device)) × (after ≡ before)
IsThere names key before after (files.Leaf device) = (device ≡ key.file.device)
    × HasSomeFile after (file_name names (files.Leaf device)) × StoresKeyFile names key before after
IsThere names key before after other = ⊥

-- anything may stand of the key file, and nothing else changed; or the key file is new, and was
-- written, and anything may stand of the leaf file
abbrev pub StoresInPart : FileNames → NewKey → Option (List NamedFile)
    → Option (List NamedFile) → Type 0
StoresInPart names key before after =
    ChangesFile before after (file_name names (files.Key key.file.device))
    ⊎ ((between : Option (List NamedFile)) × StoresKeyFile names key before between
    × ChangesFile between after (file_name names (files.Leaf key.file.device)))

-- why not both files were written, and what stands: if memory ran out, what stood before, or the
-- key file too
abbrev pub IsFilesFault : FileNames → NewKey → Use FolderTold → Fault → Type 0
IsFilesFault names key folder faults.Memory = (folder.after.files ≡ folder.before.files)
    ⊎ StoresKeyFile names key folder.before.files folder.after.files
IsFilesFault names key folder faults.Outside = Rose folder.before.faults folder.after.faults
    × StoresInPart names key folder.before.files folder.after.files
IsFilesFault names key folder (faults.Exists file) =
    IsThere names key folder.before.files folder.after.files file
IsFilesFault names key folder fault = ⊥

-- ---- the command

-- the key that was made
abbrev pub Makes : Keygen → Use ChanceTold → NewKey → Type 0
Makes asked chance key =
    IsKeygen chance.before.given chance.after.given asked.device asked.height asked.width key

-- no file was written, and nothing was printed
pub record WritesNothing (files : Use FolderTold) (out : Use StreamTold) : Type 0 where
  pub stand : files.after.files ≡ files.before.files
  pub unwritten : out.after.written ≡ out.before.written

-- the key was made, and why not both of its files were written
pub record FailsAtFiles (asked : Keygen) (files : Use FolderTold) (chance : Use ChanceTold)
    (out : Use StreamTold) (fault : Fault) : Type 0 where
  pub key : NewKey
  pub makes : Makes asked chance key
  pub cause : IsFilesFault (names_of_document asked.name) key files fault
  pub unwritten : out.after.written ≡ out.before.written

-- both files were written, and the sink failed
pub record FailsAtLine (asked : Keygen) (files : Use FolderTold) (chance : Use ChanceTold)
    (out : Use StreamTold) (fault : Fault) : Type 0 where
  pub key : NewKey
  pub makes : Makes asked chance key
  pub stores : StoresKey (names_of_document asked.name) key files.before.files files.after.files
  pub outside : fault ≡ faults.Outside
  pub rose : Rose out.before.faults out.after.faults
  pub printed : AppendsPrefix out.before.written out.after.written (key_line key.public)

-- no key was made
pub record FailsBefore (files : Use FolderTold) (chance : Use ChanceTold) (out : Use StreamTold)
    (fault : Fault) : Type 0 where
  pub cause : IsOutsideFault chance.before.faults chance.after.faults fault
  pub untouched : WritesNothing files out

-- the key was made, its files were new and are written, and its line was printed
pub record MakesNewKey (asked : Keygen) (files : Use FolderTold) (chance : Use ChanceTold)
    (out : Use StreamTold) : Type 0 where
  pub key : NewKey
  pub makes : Makes asked chance key
  pub stores : StoresKey (names_of_document asked.name) key files.before.files files.after.files
  pub printed : Appends out.before.written out.after.written (key_line key.public)

-- what `keygen` did, by its answer
abbrev pub KeygenOutcome : {T : Type 0} → Keygen → Use FolderTold → Use ChanceTold → Use StreamTold
    → Result T Fault → Type 0
KeygenOutcome asked files chance out (Ok done) = MakesNewKey asked files chance out
KeygenOutcome asked files chance out (Err fault) = FailsBefore files chance out fault
    ⊎ (FailsAtFiles asked files chance out fault ⊎ FailsAtLine asked files chance out fault)
