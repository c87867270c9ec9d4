-- The program's faults: their statuses and lines.
use Rattle.std.specs.Prelude.{◌≡◌, ℕ, List, ◌++◌, codes, Result, Ok, Err}
use Rattle.std.specs.List.{flat_map}
use Rattle.std.specs.Io.KnownBytes.{Appends}
use Rattle.sporc_outside.specs.Counts.{Rose}
use Rattle.sporc_outside.specs.Writing.{AppendsPrefix}
use Rattle.sporc_outside.specs.declared.file_fault.FileFault.{FileFault}
use Rattle.sporc_outside.specs.Uses.{Use}
use Rattle.sporc_outside.specs.Streams.{StreamTold}
use Rattle.sporc_outside.specs.declared.file_fault.FileFault.TheVariants as filing
use Rattle.sporc_epoch.specs.declared.fault.HintFault.{HintFault}
use Rattle.sporc_epoch.specs.declared.fault.HintFault.TheVariants as hints
use Rattle.sporc_keys.specs.declared.fault.DrawFault.{DrawFault}
use Rattle.sporc_keys.specs.declared.fault.DrawFault.TheVariants as drawing
use Rattle.sporc_line.specs.declared.fault.LineOpenFault.{LineOpenFault}
use Rattle.sporc_line.specs.declared.fault.LineOpenFault.TheVariants as lines
use Rattle.sporc_store.specs.declared.fault.SaveFault.{SaveFault}
use Rattle.sporc_store.specs.declared.fault.SaveFault.TheVariants as saving
use Rattle.sporc_store.specs.declared.stop.Stop.{Stop}
use Rattle.sporc_store.specs.declared.stop.Stop.TheVariants as stops
use Rattle.sporc_store.specs.SavedFile.{Taken}
use Rattle.sporc_words.specs.declared.fault.WordsFault.{WordsFault}
use Rattle.sporc_words.specs.declared.fault.WordsFault.TheVariants as reading
use Rattle.sporc_files.specs.declared.fault.Fault.{Fault}
use Rattle.sporc_files.specs.declared.fault.Fault.TheVariants as faults
use Rattle.sporc_files.specs.declared.file.File.{File}
use Rattle.sporc_files.specs.declared.file.File.TheVariants as files
use Rattle.sporc_files.specs.declared.argument.Argument.{Argument}
use Rattle.sporc_files.specs.declared.argument.Argument.TheVariants.{Number, Name, Refusal, Hints}
use Rattle.sporc_files.specs.declared.argument.Argument.TheVariants.{Opening, Edit}
use Rattle.sporc_files.specs.Arguments.{argument_bytes, none, one, two, three}
use Rattle.sporc_files.specs.Names.{FileNames}

abbrev pub status_of : Fault → ℕ
status_of faults.Memory = 1
status_of faults.Words = 2
status_of (faults.Missing file) = 3
status_of (faults.Exists file) = 3
status_of (faults.TooLong file) = 3
status_of (faults.Malformed file at) = 3
status_of (faults.Line line) = 3
status_of (faults.EditorLine editor line) = 3
status_of faults.LongScript = 3
status_of (faults.Refused position refusal) = 4
status_of (faults.Rejected refusal) = 4
status_of (faults.Hints fault) = 4
status_of (faults.Opening fault) = 4
status_of (faults.Unsettled pending position) = 5
status_of (faults.LinkEnded taken) = 6
status_of faults.Outside = 6
status_of (faults.Leaf next) = 7
status_of faults.FullHistory = 8
status_of faults.FullJournal = 8
status_of faults.FullFile = 8
status_of faults.Worn = 8
status_of (faults.Message at) = 9
status_of (faults.Edit editor line fault) = 10
status_of (faults.Ahead len) = 3

-- ---- lines

-- what a fault's line says behind its first word
abbrev pub fault_words : Fault → List ℕ
fault_words faults.Memory = codes "memory"
fault_words faults.Words = codes "words"
fault_words (faults.Missing file) = codes "missing"
fault_words (faults.Exists file) = codes "exists"
fault_words (faults.TooLong file) = codes "too long"
fault_words (faults.Malformed file at) = codes "malformed"
fault_words (faults.Line line) = codes "line"
fault_words (faults.EditorLine editor line) = codes "line"
fault_words faults.LongScript = codes "too long script"
fault_words (faults.Refused position refusal) = codes "refused"
fault_words (faults.Rejected refusal) = codes "rejected"
fault_words (faults.Hints fault) = codes "hints"
fault_words (faults.Opening fault) = codes "hints"
fault_words (faults.Unsettled pending position) = codes "unsettled"
fault_words (faults.LinkEnded taken) = codes "link ended"
fault_words faults.Outside = codes "outside"
fault_words (faults.Leaf next) = codes "leaf"
fault_words faults.FullHistory = codes "full history"
fault_words faults.FullJournal = codes "full journal"
fault_words faults.FullFile = codes "full file"
fault_words faults.Worn = codes "worn"
fault_words (faults.Message at) = codes "message"
fault_words (faults.Edit editor line fault) = codes "edit"
fault_words (faults.Ahead len) = codes "ahead"

-- and what stands behind these words
abbrev pub fault_arguments : Fault → List Argument
fault_arguments faults.Memory = none
fault_arguments faults.Words = none
fault_arguments (faults.Missing file) = one (Name file)
fault_arguments (faults.Exists file) = one (Name file)
fault_arguments (faults.TooLong file) = one (Name file)
fault_arguments (faults.Malformed file at) = two (Name file) (Number at)
fault_arguments (faults.Line line) = one (Number line)
fault_arguments (faults.EditorLine editor line) = two (Name (files.Script editor)) (Number line)
fault_arguments faults.LongScript = none
fault_arguments (faults.Refused position refusal) = two (Number position) (Refusal refusal)
fault_arguments (faults.Rejected refusal) = one (Refusal refusal)
fault_arguments (faults.Hints fault) = one (Hints fault)
fault_arguments (faults.Opening fault) = one (Opening fault)
fault_arguments (faults.Unsettled pending position) = two (Number pending) (Number position)
fault_arguments (faults.LinkEnded taken) = one (Number taken)
fault_arguments faults.Outside = none
fault_arguments (faults.Leaf next) = one (Number next)
fault_arguments faults.FullHistory = none
fault_arguments faults.FullJournal = none
fault_arguments faults.FullFile = none
fault_arguments faults.Worn = none
fault_arguments (faults.Message at) = one (Number at)
fault_arguments (faults.Edit editor line fault) = three (Number editor) (Number line) (Edit fault)
fault_arguments (faults.Ahead len) = one (Number len)

-- the line of a fault: `fault`, its words, and its arguments, each behind a space
abbrev pub fault_line : FileNames → Fault → List ℕ
fault_line names fault = codes "fault " ++ (fault_words fault
    ++ (flat_map (argument_bytes names) (fault_arguments fault) ++ codes "\n"))

-- the line of a fault was written, or a prefix of it, the sink's count of faults having risen
pub record WritesFaultLine (out : Use StreamTold) (names : FileNames) (fault : Fault) : Type 0 where
  pub line : AppendsPrefix out.before.written out.after.written (fault_line names fault)
  pub whole : ¬ (Rose out.before.faults out.after.faults)
      → Appends out.before.written out.after.written (fault_line names fault)

-- why a call failed if nothing of it can but memory and an object outside, whose count of faults
-- went from `before` to `after`
abbrev pub IsOutsideFault : ℕ → ℕ → Fault → Type 0
IsOutsideFault before after faults.Memory = Unit {0}
IsOutsideFault before after faults.Outside = Rose before after
IsOutsideFault before after fault = ⊥

-- an answer is this value or this fault, unless memory ran out, or something outside failed, as
-- `Failed` says
abbrev pub AnswersUnlessOutside : {X Y : Type 0} → (X → Y) → Type 0 → Result X Fault
    → Result Y Fault → Type 0
AnswersUnlessOutside view Failed (Ok x) says = says ≡ Ok (view x)
AnswersUnlessOutside view Failed (Err faults.Memory) says = Unit {0}
AnswersUnlessOutside view Failed (Err faults.Outside) says = Failed
AnswersUnlessOutside view Failed (Err fault) says = says ≡ Err fault

-- the first of two faults, but for out of memory at the second
abbrev pub first_fault : Result (Unit {0}) Fault → Result (Unit {0}) Fault → Result (Unit {0}) Fault
first_fault (Ok done) second = second
first_fault (Err fault) (Err faults.Memory) = Err faults.Memory
first_fault (Err fault) second = Err fault

-- ---- one of several documents

-- a file of the document of this number, among those of several
abbrev pub file_among : ℕ → File → File
file_among number files.Genesis = files.GenesisOf number
file_among number files.Log = files.LogOf number
file_among number files.Tail = files.TailOf number
file_among number file = file

-- a fault of the document of this number, among those of several
abbrev pub fault_among : ℕ → Fault → Fault
fault_among number (faults.Missing file) = faults.Missing (file_among number file)
fault_among number (faults.TooLong file) = faults.TooLong (file_among number file)
fault_among number (faults.Malformed file at) = faults.Malformed (file_among number file) at
fault_among number fault = fault

-- ---- the faults of the crates below

-- what a fault of a folder's call on this file is
abbrev pub fault_of_file : File → FileFault → Fault
fault_of_file file filing.Missing = faults.Missing file
fault_of_file file filing.Failed = faults.Outside
fault_of_file file (filing.TooLong len) = faults.TooLong file
fault_of_file file filing.Exists = faults.Exists file
fault_of_file file filing.Memory = faults.Memory

abbrev pub fault_of_words : WordsFault → Fault
fault_of_words reading.Memory = faults.Memory
fault_of_words reading.Words = faults.Words

-- why nothing was made of words of the chance
abbrev pub fault_of_draw : DrawFault → Fault
fault_of_draw drawing.Chance = faults.Outside
fault_of_draw drawing.Memory = faults.Memory

abbrev pub fault_of_saving : SaveFault → Fault
fault_of_saving saving.Memory = faults.Memory
fault_of_saving (saving.TooLong len) = faults.FullFile

-- why a member's key does not open the document
abbrev pub fault_of_line : LineOpenFault → Fault
fault_of_line lines.NoKey = faults.Opening lines.NoKey
fault_of_line lines.WrongKey = faults.Opening lines.WrongKey
fault_of_line lines.Memory = faults.Memory

-- what is read or loaded of a history's file, if that is all of it
abbrev pub unless_stopped : {A : Type 0} → File → Stop → A → Result A Fault
unless_stopped file stops.End x = Ok x
unless_stopped file stops.Foreign x = Err (faults.Malformed file 0)
unless_stopped file (stops.Cut at) x = Err (faults.Malformed file at)
unless_stopped file (stops.Refused position refusal) x = Err (faults.Refused position refusal)

-- the entries that were taken of a history's file, if they are all of it
abbrev pub whole : File → Taken → Result (List (List ℕ)) Fault
whole file taken = unless_stopped file taken.stop taken.entries

-- why entries give no hints
abbrev pub fault_of_hints : HintFault → Fault
fault_of_hints hints.NotAdded = faults.Hints hints.NotAdded
fault_of_hints (hints.NoPairKey member) = faults.Hints (hints.NoPairKey member)
fault_of_hints (hints.WrongKey epoch) = faults.Hints (hints.WrongKey epoch)
fault_of_hints hints.Memory = faults.Memory
