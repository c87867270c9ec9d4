use Rattle.std.proofs.Common.{length}
use Rattle.sporc_script.proofs.Common.{editor_line}
use Rattle.sporc_script.proofs.EditorReaders.{IsEditorNext}
use Rattle.sporc_script.proofs.ScriptLines.{IsReadTo}
use Rattle.sporc_script.proofs.editor_script.read_editor.Given as goal

abbrev pub invariant-loop-rest : goal.invariant-loop-rest
invariant-loop-rest l = IsReadTo editor_line IsEditorNext l.text l.lines.items l.number l.rest

abbrev pub decreases-loop-rest : goal.decreases-loop-rest
decreases-loop-rest l = length l.rest
