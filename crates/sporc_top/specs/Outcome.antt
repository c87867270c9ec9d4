-- What a run of the program did.
use Rattle.std.specs.Prelude.{◌≡◌, ◌≤◌, ◌⊎◌, ℕ, List, map, None, Some, Result, Ok, Err, ⊤, String}
use Rattle.std.specs.Prelude.{string_bytes}
use Rattle.sporc_outside.specs.Uses.{Use}
use Rattle.sporc_outside.specs.Streams.{StreamTold}
use Rattle.sporc_outside.specs.LeafDisk.{DiskTold}
use Rattle.sporc_words.specs.declared.command.Command.{Command}
use Rattle.sporc_words.specs.Commands.{command_of}
use Rattle.sporc_files.specs.declared.fault.Fault.{Fault}
use Rattle.sporc_files.specs.declared.fault.Fault.TheVariants as faults
use Rattle.sporc_files.specs.Faults.{WritesFaultLine, status_of}
use Rattle.sporc_files.specs.Names.{FileNames}
use Rattle.sporc_clients.specs.Uses.{from, until}
use Rattle.sporc_top.specs.Performing.{Performs, names_of, no_files}
use Rattle.sporc_top.specs.Uses.{AllKept, IsUnused, OutsideUse}

-- A command did all its work, or a fault stopped it, whose line was then written behind what the
-- command had written; by the exit status. The sink's count did not fall before that line, nor
-- while it was written
pub data Ends (Did : Use StreamTold → Result ⊤ Fault → Type 0) (names : FileNames)
    (out : Use StreamTold) : ℕ → Type 0 where
  done : Did out (Ok tt) → Ends Did names out 0
  stopped : {fault : Fault} {between : StreamTold} → Did (until between out) (Err fault)
      → out.before.faults ≤ between.faults → WritesFaultLine (from between out) names fault
      → between.faults ≤ out.after.faults → Ends Did names out (status_of fault)

-- What a run did, by its exit status
pub data RunOutcome {D : Type 0} (disks : D → DiskTold) (words : List (List ℕ))
    (outside : OutsideUse) : ℕ → Type 0 where
  -- the words ask for nothing: 2, `fault words`, and nothing else
  no_command : command_of words ≡ None → IsUnused outside
      → WritesFaultLine outside.out no_files faults.Words → RunOutcome disks words outside 2
  -- memory ran out before they were read: 1, `fault memory`, and nothing else
  unread : IsUnused outside → WritesFaultLine outside.out no_files faults.Memory
      → RunOutcome disks words outside 1
  -- they ask for a command: what it did, and then the line of its fault
  command : {asked : Command} {status : ℕ} → command_of words ≡ Some asked
      → Ends (λ out. Performs disks asked (record outside { out = out }))
      (names_of asked) outside.out status → RunOutcome disks words outside status

-- the words of a run, as their bytes
abbrev pub texts : {Z : Type 0} → List (String Z) → List (List ℕ)
texts {Z = Z} words = map (λ (w : String Z). string_bytes w) words

-- what a run did; and no count fell, and all that was handed out came back
pub record Ran {D : Type 0} (disks : D → DiskTold) (words : List (List ℕ)) (outside : OutsideUse)
    (status : ℕ) : Type 0 where
  pub outcome : RunOutcome disks words outside status
  pub kept : AllKept outside

-- this, unless memory ran out, or something outside failed
abbrev pub UnlessCutOff : ℕ → Type 0 → Type 0
UnlessCutOff status P = P ⊎ (status ≡ 1) ⊎ (status ≡ 6)
