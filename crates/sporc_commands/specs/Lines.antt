-- What commands have in common: how they write one line.
use Rattle.std.specs.Prelude.{◌≡◌, ◌⊎◌, ℕ, List, Result, Ok, Err}
use Rattle.std.specs.Io.KnownBytes.{Appends}
use Rattle.sporc_outside.specs.Counts.{Rose}
use Rattle.sporc_outside.specs.Uses.{Use}
use Rattle.sporc_outside.specs.Writing.{AppendsPrefix}
use Rattle.sporc_outside.specs.Streams.{IsUnwritten, StreamTold}
use Rattle.sporc_outside.specs.Folders.{FolderTold}
use Rattle.sporc_files.specs.declared.fault.Fault.{Fault}
use Rattle.sporc_files.specs.declared.fault.Fault.TheVariants as faults

-- what was printed of a text, by the answer: all of it; or the sink failed, and a prefix was
abbrev pub Prints : {T : Type 0} → Use StreamTold → List ℕ → Result T Fault → Type 0
Prints out text (Ok done) = Appends out.before.written out.after.written text
Prints out text (Err fault) = (fault ≡ faults.Outside) × Rose out.before.faults out.after.faults
    × AppendsPrefix out.before.written out.after.written text

-- what a command did that writes a line of what it found in files, by its answer: the line, or why
-- there is none
module _ {X : Type 0} (Says : X → List ℕ → Type 0) (folder : Use FolderTold) (out : Use StreamTold)
    (found : Result X Fault) where
  -- the line of what was found, which was written as this says
  pub record HasLine (Written : List ℕ → Type 0) : Type 0 where
    pub value : X
    pub line : List ℕ
    pub found_is : found ≡ Ok value
    pub says : Says value line
    pub written : Written line

  abbrev pub WritesLine : {T : Type 0} → Result T Fault → Type 0
  WritesLine (Ok done) = HasLine (Appends out.before.written out.after.written)
  WritesLine (Err faults.Memory) = IsUnwritten out
  WritesLine (Err faults.Outside) =
      (Rose folder.before.faults folder.after.faults × IsUnwritten out)
      ⊎ (Rose out.before.faults out.after.faults
      × HasLine (AppendsPrefix out.before.written out.after.written))
  WritesLine (Err fault) = (found ≡ Err fault) × IsUnwritten out
