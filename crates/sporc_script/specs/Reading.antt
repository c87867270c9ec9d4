-- How one line of a script is read.
use Rattle.std.specs.Prelude.{◌≡◌, ℕ, List, Option, Some, None, true}
use Rattle.sporc_script.specs.declared.command.Command.{Command}
use Rattle.sporc_script.specs.declared.editor_line.EditorCommand.{EditorCommand}
use Rattle.sporc_script.specs.declared.editor_line.EditorLine.{EditorLine}
use Rattle.sporc_script.specs.declared.play_line.PlayLine.{PlayLine}
use Rattle.sporc_script.specs.Commands.{Spells}
use Rattle.sporc_script.specs.Declarations.{Declared, declared_after, may_follow}
use Rattle.sporc_script.specs.EditorLines.{SpellsEditor}
use Rattle.sporc_script.specs.Lines.{IsSkipped}

-- line n, after these declarations, is skipped, or is a part of the script
abbrev pub ReadsLine : Declared → ℕ → List ℕ → Option PlayLine → Type 0
ReadsLine declared n line None = IsSkipped line
ReadsLine declared n line (Some l) =
    (l.number ≡ n) × Spells line l.command × (may_follow declared l.command ≡ true)

-- line k is this one, and it is outside the grammar
abbrev pub IsBadLine : Declared → ℕ → List ℕ → ℕ → Type 0
IsBadLine declared n line k = (k ≡ n) × ¬ (IsSkipped line)
    × ((c : Command) → Spells line c → may_follow declared c ≡ true → ⊥)

-- what is declared once a line is read
abbrev pub declared_with : Declared → Option PlayLine → Declared
declared_with declared None = declared
declared_with declared (Some l) = declared_after declared l.command

-- what is read of a line of an editor script
abbrev pub ReadsEditorLine : ℕ → List ℕ → Option EditorLine → Type 0
ReadsEditorLine n line None = IsSkipped line
ReadsEditorLine n line (Some l) = (l.number ≡ n) × SpellsEditor line l.command

abbrev pub IsBadEditorLine : ℕ → List ℕ → ℕ → Type 0
IsBadEditorLine n line k =
    (k ≡ n) × ¬ (IsSkipped line) × ((c : EditorCommand) → ¬ SpellsEditor line c)
