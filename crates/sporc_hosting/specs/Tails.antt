-- The tail of a server's log: what it keeps, and what became of its file.
use Rattle.std.specs.Prelude.{◌≡◌, ◌⊎◌, ◌≤◌, ℕ, List, length, Option, IfSome, Result, Ok, Err}
use Rattle.sporc_outside.specs.Counts.{Rose}
use Rattle.sporc_outside.specs.Files.{RemovesFile, TakesFile}
use Rattle.sporc_outside.specs.Uses.{Use}
use Rattle.sporc_outside.specs.Folders.{FolderTold}
use Rattle.sporc_outside.specs.AppendFile.{AppendTold}
use Rattle.sporc_order.specs.OrderModel.{OrderModel}
use Rattle.sporc_store.specs.SavedFile.{IsPrefix}
use Rattle.sporc_store.specs.TailBytes.{Recovers}
use Rattle.sporc_store.specs.TailFiles.{Keeps, TailFileModel}
use Rattle.sporc_files.specs.declared.fault.Fault.{Fault}
use Rattle.sporc_files.specs.declared.fault.Fault.TheVariants as faults
use Rattle.sporc_files.specs.declared.file.File.TheVariants as files

-- a tail, the document whose log it is behind, and how many entries that log had as it was opened
pub record LogTailModel (D : Type 0) : Type 0 where
  pub tail : TailFileModel D
  pub document : List ℕ
  pub logged : ℕ

-- it keeps the last of these entries, all but the first few, which its log has
pub record KeepsLast {D : Type 0} (file_told : D → AppendTold) (t : LogTailModel D)
    (entries before behind : List (List ℕ)) : Type 0 where
  pub document : t.tail.document ≡ t.document
  pub logged : length before ≤ t.logged
  pub keeps : Keeps file_told t.tail entries before behind

abbrev pub KeepsBehind : {D : Type 0} → (D → AppendTold) → LogTailModel D → List (List ℕ) → Type 0
KeepsBehind file_told t entries = (before : List (List ℕ)) × (behind : List (List ℕ))
    × KeepsLast file_told t entries before behind

-- behind each log of at least so many of these entries, and of no others, the bytes of a tail give
-- all of them
abbrev pub GivesAll : ℕ → List ℕ → List ℕ → List (List ℕ) → Type 0
GivesAll logged document bytes entries = (log : List (List ℕ)) → logged ≤ length log
    → IsPrefix log entries → Recovers log document bytes entries

-- ---- what became of its file, where a server ended with these entries, and its log had so many as
-- it began

-- the file is back, with some bytes
abbrev pub TakesTail : List ℕ → Use FolderTold → Type 0
TakesTail name folder =
    (stored : Option (List ℕ)) × TakesFile name stored folder.before.files folder.after.files

module _ (name : List ℕ) (folder : Use FolderTold) where
  -- it is gone, or that failed, and it is gone or back
  abbrev pub RemovesTail : Result (Unit {0}) Fault → Type 0
  RemovesTail (Ok done) = RemovesFile name folder.before.files folder.after.files
  RemovesTail (Err faults.Outside) = Rose folder.before.faults folder.after.faults
      × (RemovesFile name folder.before.files folder.after.files ⊎ TakesTail name folder)
  RemovesTail (Err fault) = ⊥

  -- It is back, and its bytes give all entries behind any log that has those that it had at first.
  -- Or what came back from the server is the tail of another log, which no contract of the server
  -- denies, and no server does
  abbrev pub KeepsTail : ℕ → List ℕ → List (List ℕ) → Result (Unit {0}) Fault → Type 0
  KeepsTail logged document entries (Ok done) =
      (stored : Option (List ℕ)) × TakesFile name stored folder.before.files folder.after.files
      × IfSome stored (λ bytes. ∥ GivesAll logged document bytes entries ∥₁)
  KeepsTail logged document entries (Err (faults.Malformed file at)) =
      (file ≡ files.Tail) × (at ≡ 0) × TakesTail name folder
  KeepsTail logged document entries (Err fault) = ⊥

  -- it is gone if the log was saved with all entries, and else it is kept
  abbrev pub GivesBack : ℕ → List ℕ → List (List ℕ) → Result (Unit {0}) Fault
      → Result (Unit {0}) Fault → Type 0
  GivesBack logged document entries (Ok saved) given = RemovesTail given
  GivesBack logged document entries (Err fault) given = KeepsTail logged document entries given

-- what is answered behind the last round, by its answer and by what came of giving the tail back: a
-- fault of the round goes before one of that, but for the tail of another log
abbrev pub after_last : Result (Unit {0}) Fault → Result (Unit {0}) Fault → Result (Unit {0}) Fault
after_last (Ok done) given = given
after_last (Err fault) (Err (faults.Malformed file at)) = Err (faults.Malformed file at)
after_last (Err fault) given = Err fault

-- the tail of this order was given back behind the last round, and this was answered of both
abbrev pub GivesLastBack : List ℕ → Use FolderTold → ℕ → OrderModel → Result (Unit {0}) Fault
    → Result (Unit {0}) Fault → Result (Unit {0}) Fault → Type 0
GivesLastBack name folder logged order saved answer result = (given : Result (Unit {0}) Fault)
    × GivesBack name folder logged order.genesis.document order.entries saved given
    × (result ≡ after_last answer given)
