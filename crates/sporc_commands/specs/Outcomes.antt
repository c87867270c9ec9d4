-- What each command did: what it read, what it wrote, and why it did not do all its work.
use Rattle.std.specs.Prelude.{ℕ, List, [], ◌∷◌, Option, Result}
use Rattle.sporc_outside.specs.Uses.{Use}
use Rattle.sporc_outside.specs.Streams.{StreamTold}
use Rattle.sporc_outside.specs.Folders.{FolderTold}
use Rattle.sporc_member.specs.declared.device.Device.{Device}
use Rattle.sporc_files.specs.declared.fault.Fault.{Fault}
use Rattle.sporc_files.specs.declared.file.File.TheVariants as files
use Rattle.sporc_files.specs.Names.{FileNames}
use Rattle.sporc_files.specs.Uses.{OnlyReads}
use Rattle.sporc_commands.specs.Checking.{AreCheckedFiles, CheckedFiles, IsCheckedLine}
use Rattle.sporc_commands.specs.Checking.{checked_files, checked_in}
use Rattle.sporc_commands.specs.Comparing.{AreComparedFiles, ComparedFiles, IsVerdictLine}
use Rattle.sporc_commands.specs.Comparing.{chains_in}
use Rattle.sporc_commands.specs.Telling.{IsJust, lines_in, text_in}
use Rattle.sporc_commands.specs.Lines.{WritesLine}

-- ---- check, text and entries

-- the genesis, the key of a device, the ring of its member and the history of the device were read,
-- the history was examined, and what was found in them was written as `Says` has it
pub record Examines {X T : Type 0} (Says : X → List ℕ → Type 0)
    (found : CheckedFiles → Result X Fault) (names : FileNames) (device : Device)
    (folder : Use FolderTold) (out : Use StreamTold) (answer : Result T Fault) : Type 0 where
  pub content : CheckedFiles
  pub are : AreCheckedFiles folder.before.files names device content
  pub reads : OnlyReads names (checked_files device) folder
  pub writes : WritesLine Says folder out (found content) answer

-- `check NAME M`: the line of how many entries the history has
abbrev pub CheckOutcome : {T : Type 0} → FileNames → Device → Use FolderTold → Use StreamTold
    → Result T Fault → Type 0
CheckOutcome names device = Examines IsCheckedLine (checked_in device) names device

-- `text NAME M --at POS`: the committed text, after so many of its entries or after all
abbrev pub TextOutcome : {T : Type 0} → FileNames → Device → Option ℕ → Use FolderTold
    → Use StreamTold → Result T Fault → Type 0
TextOutcome names device at = Examines IsJust (text_in device at) names device

-- `entries NAME M --from POS`: the lines of the entries from that position on
abbrev pub EntriesOutcome : {T : Type 0} → FileNames → Device → ℕ → Use FolderTold → Use StreamTold
    → Result T Fault → Type 0
EntriesOutcome names device from = Examines IsJust (lines_in device from) names device

-- ---- compare

-- `compare NAME M N`: the genesis and then the histories of both devices are read, whole, and the
-- line of how the chain of the first stands to that of the second is written
pub record CompareOutcome {T : Type 0} (names : FileNames) (m n : Device) (folder : Use FolderTold)
    (out : Use StreamTold) (answer : Result T Fault) : Type 0 where
  pub content : ComparedFiles
  pub are : AreComparedFiles folder.before.files names m n content
  pub reads : OnlyReads names (files.Genesis ∷ files.History m ∷ files.History n ∷ []) folder
  pub writes : WritesLine (IsVerdictLine m n) folder out (chains_in m n content) answer
