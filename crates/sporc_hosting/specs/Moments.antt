-- What a folder and a sink tell at a moment, and between two.
use Rattle.std.specs.Prelude.{◌≡◌, ◌≤◌}
use Rattle.sporc_outside.specs.Folders.{FolderTold}
use Rattle.sporc_outside.specs.Streams.{StreamTold}
use Rattle.sporc_outside.specs.Uses.{Use}

-- what a folder and a sink tell at a moment
pub record Moment : Type 0 where
  pub folder : FolderTold
  pub out : StreamTold

abbrev pub moment_of : {F O : Type 0} → (F → FolderTold) → (O → StreamTold) → F → O → Moment
moment_of folder_told sink_told folder out =
    record { folder = folder_told folder; out = sink_told out }

-- a moment behind another: no count of faults has fallen
pub record IsBehind (a b : Moment) : Type 0 where
  pub folder_faults : a.folder.faults ≤ b.folder.faults
  pub sink_faults : a.out.faults ≤ b.out.faults

-- what became of both between two moments
abbrev pub folder_between : Moment → Moment → Use FolderTold
folder_between a b = record { before = a.folder; after = b.folder }

abbrev pub sink_between : Moment → Moment → Use StreamTold
sink_between a b = record { before = a.out; after = b.out }

-- what they tell at the end of their use
abbrev pub at_end : Use FolderTold → Use StreamTold → Moment
at_end folder out = record { folder = folder.after; out = out.after }

-- the files, and the folder's count of faults, became others between two moments, and else nothing
pub record ChangesFolderAlone (a b : Moment) : Type 0 where
  pub folder_faults : a.folder.faults ≤ b.folder.faults
  pub written : b.out.written ≡ a.out.written
  pub sink_faults : b.out.faults ≡ a.out.faults
