-- What a play does with its source and its sink.
use Rattle.std.specs.Prelude.{◌≡◌, true, ℕ, ◌+◌, ◌≤◌, ◌⊎◌, List, length, Result, Ok, Err}
use Rattle.std.specs.Io.KnownBytes.{Appends, Consumes, IsAtEnd}
use Rattle.sporc_outside.specs.Counts.{Rose}
use Rattle.sporc_outside.specs.Uses.{Use}
use Rattle.sporc_outside.specs.Writing.{AppendsPrefix}
use Rattle.sporc_outside.specs.Streams.{IsUnwritten, StreamTold}
use Rattle.sporc_outside.specs.declared.reading.ReadFault.{ReadFault}
use Rattle.sporc_outside.specs.declared.reading.ReadFault.TheVariants as reading
use Rattle.sporc_outside.specs.Reading.{ConsumesExactly}
use Rattle.sporc_play.specs.declared.fault.PlayFault.{PlayFault}
use Rattle.sporc_play.specs.declared.fault.PlayFault.TheVariants as faults
use Rattle.sporc_play.specs.declared.playing.TheConstants.{MAX_SCRIPT}
use Rattle.sporc_script.specs.declared.lines.LineFault.{LineFault}
use Rattle.sporc_script.specs.declared.lines.LineFault.TheVariants as lines
use Rattle.sporc_script.specs.declared.play_line.PlayLine.{PlayLine}
use Rattle.sporc_script.specs.Grammar.{IsPlayFault, IsPlayScript}
use Rattle.sporc_client.specs.Genuine.{Genuine}
use Rattle.sporc_play.specs.Cast.{has_admin, setup_of}
use Rattle.sporc_play.specs.Generated.{Summarizes, generated_cast, generated_commands}
use Rattle.sporc_play.specs.Generated.{generated_scene}
use Rattle.sporc_play.specs.Moves.{IsOneRun, moves_of}
use Rattle.sporc_play.specs.OwnPlays.{AreByClients}
use Rattle.sporc_play.specs.Report.{Reports, ReportsPrefix}
use Rattle.sporc_play.specs.Scene.{commands_of}

-- the fault of a play that a fault of its source or its script is
abbrev pub read_fault : ReadFault → PlayFault
read_fault reading.Memory = faults.Memory
read_fault reading.Failed = faults.ReadFault
read_fault reading.TooLong = faults.TooLong

abbrev pub line_fault : LineFault → PlayFault
line_fault lines.Memory = faults.Memory
line_fault (lines.Line k) = faults.LineFault k

-- the source was read to its end, and this is all that was left in it
pub record ReadsWhole (source : Use StreamTold) (text : List ℕ) : Type 0 where
  pub all : Consumes source.before.left source.after.left text
  pub ended : IsAtEnd source.after.left
  pub within : length text ≤ MAX_SCRIPT

-- a text that is not too long is this script
abbrev pub IsShortScript : List PlayLine → Type 0
IsShortScript script = (text : List ℕ) × (length text ≤ MAX_SCRIPT) × IsPlayScript text script

-- the source was read to its end as this script; if it has an admin, without whom it has no
-- command, its play is a run of the clients, who agree at any two of its moments, and without
-- `sign`, `flip` and `cut` it is a genuine one
pub record ReadsScript (source : Use StreamTold) (script : List PlayLine) : Type 0 where
  pub text : List ℕ
  pub whole : ReadsWhole source text
  pub reads : IsPlayScript text script
  pub one_run : has_admin script ≡ true → IsOneRun script (commands_of script)
  pub genuine : has_admin script ≡ true → AreByClients script
      → Genuine (setup_of script) (moves_of script (commands_of script))

-- the source was read to its end, and its first line outside the grammar is line k
abbrev pub HasFaultLine : Use StreamTold → ℕ → Type 0
HasFaultLine source k = (text : List ℕ) × ReadsWhole source text × IsPlayFault text k

-- one byte above the limit was taken, and no more
abbrev pub IsTooLong : Use StreamTold → Type 0
IsTooLong source = ConsumesExactly (MAX_SCRIPT + 1) source.before.left source.after.left

-- a script was read, and its report was written, nothing else
abbrev pub Plays : Use StreamTold → Use StreamTold → Type 0
Plays source out = (script : List PlayLine) × ReadsScript source script
    × Reports script out.before.written out.after.written

-- a script was read, and a prefix of its report was written, nothing else
abbrev pub PlaysPrefix : Use StreamTold → Use StreamTold → Type 0
PlaysPrefix source out = (script : List PlayLine) × ReadsScript source script
    × ReportsPrefix script out.before.written out.after.written

-- what a play did, by its answer
abbrev pub PlayOutcome : {T : Type 0} → Use StreamTold → Use StreamTold
    → Result T PlayFault → Type 0
PlayOutcome source out (Ok done) = Plays source out
PlayOutcome source out (Err faults.Memory) = IsUnwritten out ⊎ PlaysPrefix source out
PlayOutcome source out (Err faults.ReadFault) =
    Rose source.before.faults source.after.faults × IsUnwritten out
PlayOutcome source out (Err faults.WriteFault) =
    Rose out.before.faults out.after.faults × PlaysPrefix source out
PlayOutcome source out (Err (faults.LineFault k)) = HasFaultLine source k × IsUnwritten out
PlayOutcome source out (Err faults.TooLong) = IsTooLong source × IsUnwritten out

-- why a report was not written whole: memory, or the sink, whose count rose
abbrev pub IsWriteCause : ℕ → ℕ → PlayFault → Type 0
IsWriteCause before after faults.Memory = Unit {0}
IsWriteCause before after faults.WriteFault = Rose before after
IsWriteCause before after fault = ⊥

-- ---- generated runs

-- the summary of the generated run of so many edits was written, nothing else; that run is one of
-- the clients, who agree
abbrev pub PlaysGenerated : ℕ → Use StreamTold → Type 0
PlaysGenerated n out = IsOneRun generated_cast (generated_commands n) × ((line : List ℕ)
    × Summarizes (generated_scene n) line × Appends out.before.written out.after.written line)

-- a prefix of that summary was written, nothing else
abbrev pub PlaysGeneratedPrefix : ℕ → Use StreamTold → Type 0
PlaysGeneratedPrefix n out = IsOneRun generated_cast (generated_commands n) × ((line : List ℕ)
    × Summarizes (generated_scene n) line × AppendsPrefix out.before.written out.after.written line)

-- why that summary was not written whole: memory, and nothing was written, or the sink, whose count
-- rose
abbrev pub GeneratedFault : ℕ → Use StreamTold → PlayFault → Type 0
GeneratedFault n out faults.Memory = IsUnwritten out
GeneratedFault n out faults.WriteFault =
    Rose out.before.faults out.after.faults × PlaysGeneratedPrefix n out
GeneratedFault n out fault = ⊥
