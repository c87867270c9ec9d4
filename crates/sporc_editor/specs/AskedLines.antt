-- The lines by which an editor asks: how each is spelled, and how it is read.
use Rattle.std.specs.Prelude.{◌≡◌, ℕ, if◌then◌else◌, List, ◌++◌, codes, Option, None, Some}
use Rattle.std.specs.Prelude.{option_map}
use Rattle.std.specs.Fmt.{decimal}
use Rattle.std.specs.Str.{bytes_eq}
use Rattle.sporc_member.specs.declared.change.Change.{Change as MemberChange}
use Rattle.sporc_member.specs.declared.change.Change.TheVariants as changes
use Rattle.sporc_script.specs.declared.editor_line.EditorCommand.{EditorCommand}
use Rattle.sporc_script.specs.declared.editor_line.EditorCommand.TheVariants as commands
use Rattle.sporc_script.specs.EditorLines.{EditorInRange, editor_of, editor_spelling}
use Rattle.sporc_script.specs.Edits.{insertion_of, removal_of}
use Rattle.sporc_script.specs.Quoted.{quoted}
use Rattle.sporc_script.specs.Readers.{lone_or, pair_of, then_read}
use Rattle.sporc_script.specs.Spelling.{IsU64}
use Rattle.sporc_script.specs.Words.{cut, number_of}
use Rattle.sporc_editor.specs.declared.asked.Asked.{Asked}
use Rattle.sporc_editor.specs.declared.asked.Asked.TheVariants as asks

-- the line of an editor script that asks for a change
abbrev pub command_of : MemberChange → EditorCommand
command_of (changes.Add member role key) =
    commands.Add (record { member = member; role = role; key = key })
command_of (changes.Remove member) = commands.Drop member
command_of (changes.SetRole member role) =
    commands.SetRole (record { member = member; role = role })
command_of (changes.AddDevice member number key) =
    commands.AddDevice (record { device = record { member = member; number = number }; key = key })
command_of (changes.DropDevice member number) =
    commands.DropDevice (record { member = member; number = number })
command_of changes.Upgrade = commands.Upgrade

abbrev pub asked_spelling : Asked → List ℕ
asked_spelling (asks.Insert seen e) = codes "insert "
    ++ (decimal seen ++ (codes " " ++ (decimal e.at ++ (codes " " ++ quoted e.text))))
asked_spelling (asks.Remove seen e) = codes "remove "
    ++ (decimal seen ++ (codes " " ++ (decimal e.at ++ (codes " " ++ decimal e.count))))
asked_spelling (asks.Change change) = editor_spelling (command_of change)
asked_spelling asks.Pull = codes "pull"
asked_spelling asks.Sync = codes "sync"
asked_spelling asks.Text = codes "text"
asked_spelling asks.Save = codes "save"

-- numbers fit their types, and texts and keys are such
abbrev pub AskedInRange : Asked → Type 0
AskedInRange (asks.Insert seen e) = IsU64 seen × EditorInRange (commands.Insert e)
AskedInRange (asks.Remove seen e) = IsU64 seen × EditorInRange (commands.Remove e)
AskedInRange (asks.Change change) = EditorInRange (command_of change)
AskedInRange asks.Pull = Unit {0}
AskedInRange asks.Sync = Unit {0}
AskedInRange asks.Text = Unit {0}
AskedInRange asks.Save = Unit {0}

-- the line asks for this
abbrev pub SpellsAsked : List ℕ → Asked → Type 0
SpellsAsked line asked = AskedInRange asked × (line ≡ asked_spelling asked)

-- ---- reading

unfoldable pub asked_insertion_of : List ℕ → Option Asked
asked_insertion_of words =
    option_map (λ p. asks.Insert p.0 p.1) (pair_of number_of insertion_of words)

unfoldable pub asked_removal_of : List ℕ → Option Asked
asked_removal_of words =
    option_map (λ p. asks.Remove p.0 p.1) (pair_of number_of removal_of words)

-- the change that a line of an editor script asks for, if it does not ask for an edit
abbrev pub change_of : EditorCommand → Option MemberChange
change_of (commands.Insert e) = None
change_of (commands.Remove e) = None
change_of (commands.Add f) = Some (changes.Add f.member f.role f.key)
change_of (commands.Drop member) = Some (changes.Remove member)
change_of (commands.SetRole m) = Some (changes.SetRole m.member m.role)
change_of (commands.AddDevice d) = Some (changes.AddDevice d.device.member d.device.number d.key)
change_of (commands.DropDevice d) = Some (changes.DropDevice d.member d.number)
change_of commands.Upgrade = Some changes.Upgrade

unfoldable pub asked_change_of : List ℕ → Option Asked
asked_change_of line = option_map asks.Change (then_read (editor_of line) change_of)

-- a line of one word
abbrev pub asked_alone_of : List ℕ → Option Asked
asked_alone_of line = lone_or (codes "pull") asks.Pull (lone_or (codes "sync") asks.Sync
    (lone_or (codes "text") asks.Text (lone_or (codes "save") asks.Save asked_change_of))) line

-- by the first word of a line that has more
abbrev pub asked_with : List ℕ → Option (List ℕ × List ℕ) → Option Asked
asked_with line None = asked_alone_of line
asked_with line (Some parts) =
    if bytes_eq parts.0 (codes "insert") then asked_insertion_of parts.1
    else (if bytes_eq parts.0 (codes "remove") then asked_removal_of parts.1
    else asked_change_of line)

-- what the line asks for
unfoldable pub asked_of : List ℕ → Option Asked
asked_of line = asked_with line (cut line)
