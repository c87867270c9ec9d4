-- The lines by which an editor is told.
use Rattle.std.specs.Prelude.{◌≢◌, ℕ, List, [], ◌++◌, codes}
use Rattle.std.specs.Fmt.{decimal}
use Rattle.sporc_client.specs.declared.fault.EditFault.TheVariants as edits
use Rattle.sporc_member.specs.ChangeFault.{change_fault_name}
use Rattle.sporc_report.specs.JournalLines.{delta_text}
use Rattle.sporc_report.specs.Names.{edit_fault_name}
use Rattle.sporc_screen.specs.declared.fault.ScreenFault.{ScreenFault}
use Rattle.sporc_screen.specs.declared.fault.ScreenFault.TheVariants as screens
use Rattle.sporc_screen.specs.declared.lines.Numbers.{Numbers}
use Rattle.sporc_script.specs.Quoted.{quoted}
use Rattle.sporc_editor.specs.declared.said.Cause.{Cause}
use Rattle.sporc_editor.specs.declared.said.Cause.TheVariants as causes
use Rattle.sporc_editor.specs.declared.said.Said.{Said}
use Rattle.sporc_editor.specs.declared.said.Said.TheVariants as saids
use Rattle.sporc_editor.specs.Authors.{authors_text}

-- the name of what keeps a screen from an edit; out of memory has none
abbrev pub screen_fault_name : ScreenFault → List ℕ
screen_fault_name screens.Seen = codes "seen"
screen_fault_name screens.Outside = codes "outside"
screen_fault_name screens.TooLong = codes "too-long"
screen_fault_name screens.Memory = []

abbrev pub cause_name : Cause → List ℕ
cause_name (causes.Client fault) = edit_fault_name fault
cause_name (causes.Screen fault) = screen_fault_name fault

abbrev pub numbers_text : Numbers → List ℕ
numbers_text n = decimal n.line ++ (codes " " ++ decimal n.own)

abbrev pub said_line : Said → List ℕ
said_line (saids.Text numbers text) =
    codes "text " ++ (numbers_text numbers ++ (codes " " ++ (quoted text ++ codes "\n")))
said_line (saids.Shown written authors) = codes "shown " ++ (numbers_text written.numbers
    ++ (codes " " ++ (authors_text authors
    ++ (codes " " ++ (delta_text written.delta ++ codes "\n")))))
said_line (saids.At entries pending) = codes "at "
    ++ (decimal entries ++ (codes " pending " ++ (decimal pending ++ codes "\n")))
said_line (saids.Refused line cause) =
    codes "refused " ++ (decimal line ++ (codes " " ++ (cause_name cause ++ codes "\n")))
said_line (saids.Dropped fault) = codes "dropped " ++ (change_fault_name fault ++ codes "\n")
said_line saids.Away = codes "away\n"
said_line saids.Removed = codes "removed\n"
said_line (saids.Saved entries) = codes "saved " ++ (decimal entries ++ codes "\n")

-- a cause is no want of memory
abbrev pub IsCause : Cause → Type 0
IsCause (causes.Client fault) = fault ≢ edits.Memory
IsCause (causes.Screen fault) = fault ≢ screens.Memory

-- a refusal has such a cause
abbrev pub IsNamed : Said → Type 0
IsNamed (saids.Refused line cause) = IsCause cause
IsNamed said = Unit {0}
