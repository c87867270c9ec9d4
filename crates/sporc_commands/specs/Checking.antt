-- The examination of a device's saved history.
use Rattle.std.specs.Prelude.{◌≡◌, ◌∷◌, ℕ, List, [], ◌++◌, length, codes, Option, None, Some}
use Rattle.std.specs.Prelude.{Result, Ok}
use Rattle.std.specs.Fmt.{decimal}
use Rattle.sporc_bytes.specs.Fields.{◌>>=◌}
use Rattle.sporc_outside.specs.Counts.{Rose}
use Rattle.sporc_outside.specs.Folders.{FolderTold}
use Rattle.sporc_outside.specs.Uses.{Use}
use Rattle.sporc_outside.specs.declared.named_file.NamedFile.{NamedFile}
use Rattle.sporc_entry.specs.declared.genesis.Genesis.{Genesis}
use Rattle.sporc_keys.specs.RingFile.{ring_file_of_member}
use Rattle.sporc_keys.specs.declared.ring_file.RingFile.{RingFile}
use Rattle.sporc_line.specs.Kit.{Kit}
use Rattle.sporc_line.specs.LineModel.{LineModel}
use Rattle.sporc_member.specs.declared.device.Device.{Device}
use Rattle.sporc_store.specs.Loading.{a_member, loaded}
use Rattle.sporc_store.specs.SavedFile.{Taken, saved_in}
use Rattle.sporc_files.specs.declared.fault.Fault.{Fault}
use Rattle.sporc_files.specs.declared.file.File.{File}
use Rattle.sporc_files.specs.declared.file.File.TheVariants as files
use Rattle.sporc_files.specs.Faults.{AnswersUnlessOutside, whole}
use Rattle.sporc_files.specs.Names.{FileNames, file_name}
use Rattle.sporc_files.specs.Opening.{kit_by}
use Rattle.sporc_files.specs.Reading.{own_key_file}
use Rattle.sporc_files.specs.Contents.{IsFileAt, bytes_in, genesis_in, said}

-- ---- files

-- the files of an examination, in the order in which they are read
pub record CheckedFiles : Type 0 where
  pub genesis : Option (List ℕ)
  pub key : Option (List ℕ)
  pub ring : Option (List ℕ)
  pub history : Option (List ℕ)

abbrev pub checked_files : Device → List File
checked_files device =
    files.Genesis ∷ files.Key device ∷ files.Ring device.member ∷ files.History device ∷ []

-- those of an examination as a folder holds them
pub record AreCheckedFiles (told : Option (List NamedFile)) (names : FileNames) (device : Device)
    (content : CheckedFiles) : Type 0 where
  pub genesis : IsFileAt told (file_name names files.Genesis) content.genesis
  pub key : IsFileAt told (file_name names (files.Key device)) content.key
  pub ring : IsFileAt told (file_name names (files.Ring device.member)) content.ring
  pub history : IsFileAt told (file_name names (files.History device)) content.history

-- ---- the history

-- the entries that a joiner's hints are taken from: those of its own history, which has to be
-- whole; a founder needs none
abbrev pub entries_for_hints : Device → Option (List ℕ) → List ℕ → List ℕ
    → Result (List (List ℕ)) Fault
entries_for_hints device (Some key) document history = Ok []
entries_for_hints device None document history =
    whole (files.History device) (saved_in document history)

-- what a device of a member with this ring is given, if that opens the document
abbrev pub kit_in : Genesis → Device → RingFile → List ℕ → Result Kit Fault
kit_in genesis device ring history =
    entries_for_hints device ring.epoch_key genesis.document history >>= kit_by genesis device ring

-- a history that a device accepted: its document, what the device was given, and the entries
pub record CheckedLine : Type 0 where
  pub genesis : Genesis
  pub kit : Kit
  pub entries : List (List ℕ)

abbrev pub checked_line : LineModel → CheckedLine
checked_line line = record { genesis = line.genesis; kit = line.kit; entries = line.entries }

-- the entries that were taken of a device's history, if they are all of it
abbrev pub line_of_whole : Device → Genesis → Kit → Taken → Result CheckedLine Fault
line_of_whole device genesis kit taken = whole (files.History device) taken
    >>= λ entries. Ok (record { genesis = genesis; kit = kit; entries = entries })

-- a history, if a device of a member with this ring opens it and accepts all of it
abbrev pub examined : Genesis → Device → RingFile → List ℕ → Result CheckedLine Fault
examined genesis device ring history = do
  kit ← kit_in genesis device ring history
  line_of_whole device genesis kit (loaded (a_member genesis kit) genesis.document history)

-- the line of the history in a device's files: its own key and history, and its member's ring
abbrev pub line_in : Device → CheckedFiles → Result CheckedLine Fault
line_in device content = do
  genesis ← genesis_in content.genesis
  key ← said (own_key_file genesis.founders device) (files.Key device) content.key
  ring ← said (ring_file_of_member device.member) (files.Ring device.member) content.ring
  history ← bytes_in (files.History device) content.history
  examined genesis device ring history

-- it was found in the files of a folder
abbrev pub FindsLine : Use FolderTold → FileNames → Device → Result LineModel Fault → Type 0
FindsLine folder names device result =
    (content : CheckedFiles) × AreCheckedFiles folder.before.files names device content
    × AnswersUnlessOutside checked_line (Rose folder.before.faults folder.after.faults) result
    (line_in device content)

-- ---- `check`

-- how many entries it has
abbrev pub checked_in : Device → CheckedFiles → Result ℕ Fault
checked_in device content = line_in device content >>= λ line. Ok (length line.entries)

-- the line that says how many entries there are
abbrev pub IsCheckedLine : ℕ → List ℕ → Type 0
IsCheckedLine len line = line ≡ codes "checked " ++ (decimal len ++ codes "\n")
