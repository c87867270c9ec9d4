-- What the files of a member's device say before a session.
use Rattle.std.specs.Prelude.{◌≡◌, ◌≤◌, ℕ, ◌+◌, List, [], ◌∷◌, length, map, Option, ⊤}
use Rattle.sporc_outside.specs.Files.{HasFile}
use Rattle.sporc_outside.specs.Folders.{FolderTold}
use Rattle.sporc_outside.specs.Uses.{Use}
use Rattle.sporc_outside.specs.declared.file_fault.TheConstants.{MAX_FILE}
use Rattle.sporc_outside.specs.declared.named_file.NamedFile.{NamedFile}
use Rattle.lms_tree.specs.LmsPrivate.{LmsPrivate}
use Rattle.sporc_member.specs.declared.device.Device.{Device}
use Rattle.sporc_entry.specs.declared.genesis.Genesis.{Genesis}
use Rattle.sporc_keys.specs.declared.ring_file.RingFile.{RingFile}
use Rattle.sporc_keys.specs.RingFile.{ring_file_of_member}
use Rattle.sporc_script.specs.declared.editor_line.EditorLine.{EditorLine}
use Rattle.sporc_script.specs.Grammar.{IsEditorFault, IsEditorScript}
use Rattle.sporc_base.specs.Numbers.{up_to}
use Rattle.sporc_files.specs.declared.fault.Fault.{Fault}
use Rattle.sporc_files.specs.declared.fault.Fault.TheVariants as faults
use Rattle.sporc_files.specs.declared.file.File.{File}
use Rattle.sporc_files.specs.declared.file.File.TheVariants.{Genesis as GenesisFile, Key, Ring}
use Rattle.sporc_files.specs.declared.file.File.TheVariants.{Script}
use Rattle.sporc_files.specs.Names.{FileNames, file_name}
use Rattle.sporc_files.specs.Reading.{IsFileFault, SaysFile, any_bytes, genesis_file, own_key_file}
use Rattle.sporc_device.specs.declared.member_files.MemberFiles.{MemberFiles}

-- ---- editor scripts

-- the scripts of so many editors
abbrev pub script_files : ℕ → List File
script_files count = map Script (up_to count)

-- told files have a file with this name that is this script
abbrev pub SaysScript : Option (List NamedFile) → List ℕ → List EditorLine → Type 0
SaysScript files name script = (text : List ℕ) × (length text ≤ MAX_FILE) × HasFile files name text
    × IsEditorScript text script

-- these are the scripts of the editors from this number on
abbrev pub SayScripts : Option (List NamedFile) → FileNames → ℕ → List (List EditorLine) → Type 0
SayScripts files names editor [] = ⊤
SayScripts files names editor (script ∷ scripts) =
    SaysScript files (file_name names (Script editor)) script
    × SayScripts files names (editor + 1) scripts

-- why the script of an editor was not read: as any file, or a line is the first outside the grammar
pub data IsScriptFault (folder : Use FolderTold) (names : FileNames) (editor : ℕ)
    (fault : Fault) : Type 0 where
  unread : IsFileFault any_bytes folder names (Script editor) fault
      → IsScriptFault folder names editor fault
  no_script : (text : List ℕ) (line : ℕ) → length text ≤ MAX_FILE
      → HasFile folder.before.files (file_name names (Script editor)) text
      → IsEditorFault text line → fault ≡ faults.EditorLine editor line
      → IsScriptFault folder names editor fault
  out_of_memory : fault ≡ faults.Memory → IsScriptFault folder names editor fault

-- those of so many editors
pub record SayAllScripts (files : Option (List NamedFile)) (names : FileNames) (count : ℕ)
    (scripts : List (List EditorLine)) : Type 0 where
  pub all : length scripts ≡ count
  pub each : SayScripts files names 1 scripts

-- the first that was not read, with those before it
pub record IsFirstScriptFault (folder : Use FolderTold) (names : FileNames)
    (fault : Fault) : Type 0 where
  pub read : List (List EditorLine)
  pub each : SayScripts folder.before.files names 1 read
  pub fault_is : IsScriptFault folder names (length read + 1) fault

-- ---- the files of a device

-- the genesis, the key of a device, the ring of its member, and the scripts of so many editors
abbrev pub own_files : Device → ℕ → List File
own_files device count = GenesisFile ∷ Key device ∷ Ring device.member ∷ script_files count

-- told files say this of a device, and of the scripts of so many editors
pub record SayMember (files : Option (List NamedFile)) (names : FileNames) (device : Device)
    (count : ℕ) (m : MemberFiles) : Type 0 where
  pub genesis : SaysFile genesis_file files (file_name names GenesisFile) m.genesis
  pub key : SaysFile (own_key_file m.genesis.founders device) files
      (file_name names (Key device)) m.tree
  pub ring : SaysFile (ring_file_of_member device.member) files
      (file_name names (Ring device.member)) m.ring
  pub editors : SayAllScripts files names count m.editors

-- what the genesis and the key of a device say
pub record SayGenesisAndKey (files : Option (List NamedFile)) (names : FileNames) (device : Device)
    (genesis : Genesis) (key : LmsPrivate) : Type 0 where
  pub genesis_says : SaysFile genesis_file files (file_name names GenesisFile) genesis
  pub key_says : SaysFile (own_key_file genesis.founders device) files
      (file_name names (Key device)) key

-- the first file that was not read, behind those before it
pub data IsMemberFault (folder : Use FolderTold) (names : FileNames) (device : Device)
    (fault : Fault) : Type 0 where
  no_genesis : IsFileFault genesis_file folder names GenesisFile fault
      → IsMemberFault folder names device fault
  no_key : {genesis : Genesis}
      → SaysFile genesis_file folder.before.files (file_name names GenesisFile) genesis
      → IsFileFault (own_key_file genesis.founders device) folder names (Key device) fault
      → IsMemberFault folder names device fault
  no_ring : {genesis : Genesis} {key : LmsPrivate}
      → SayGenesisAndKey folder.before.files names device genesis key
      → IsFileFault (ring_file_of_member device.member) folder names (Ring device.member) fault
      → IsMemberFault folder names device fault
  no_scripts : {genesis : Genesis} {key : LmsPrivate} {ring : RingFile}
      → SayGenesisAndKey folder.before.files names device genesis key
      → SaysFile (ring_file_of_member device.member) folder.before.files
      (file_name names (Ring device.member)) ring
      → IsFirstScriptFault folder names fault → IsMemberFault folder names device fault
