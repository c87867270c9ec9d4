-- Which texts are play scripts, and which are editor scripts.
use Rattle.std.specs.Prelude.{◌≡◌, ℕ, true, List, []}
use Rattle.sporc_script.specs.declared.command.Command.{Command}
use Rattle.sporc_script.specs.declared.editor_line.EditorCommand.{EditorCommand}
use Rattle.sporc_script.specs.declared.editor_line.EditorLine.{EditorLine}
use Rattle.sporc_script.specs.declared.play_line.PlayLine.{PlayLine}
use Rattle.sporc_script.specs.Commands.{Spells}
use Rattle.sporc_script.specs.Declarations.{declared_by, may_follow}
use Rattle.sporc_script.specs.EditorLines.{SpellsEditor}
use Rattle.sporc_script.specs.Lines.{IsFirstBad, ReadsAs, lines_of}

abbrev pub play_line : ℕ → Command → PlayLine
play_line n command = record { number = n; command = command }

-- the line is this command, and may stand after those before it
abbrev pub IsNext : List PlayLine → List ℕ → Command → Type 0
IsNext before line command = Spells line command × (may_follow (declared_by before) command ≡ true)

-- the text is this play script
abbrev pub IsPlayScript : List ℕ → List PlayLine → Type 0
IsPlayScript text script = ReadsAs play_line IsNext [] 1 (lines_of text) script

-- line k of the text is the first that is outside the grammar of play scripts
abbrev pub IsPlayFault : List ℕ → ℕ → Type 0
IsPlayFault text k = IsFirstBad play_line IsNext [] 1 (lines_of text) k

abbrev pub editor_line : ℕ → EditorCommand → EditorLine
editor_line n command = record { number = n; command = command }

-- the text is this editor script: any line may follow any
abbrev pub IsEditorScript : List ℕ → List EditorLine → Type 0
IsEditorScript text script = ReadsAs editor_line
    (λ before line command. SpellsEditor line command) [] 1 (lines_of text) script

-- line k of the text is the first that is outside the grammar of editor scripts
abbrev pub IsEditorFault : List ℕ → ℕ → Type 0
IsEditorFault text k =
    IsFirstBad editor_line (λ before line command. SpellsEditor line command) [] 1 (lines_of text) k
