use Rattle.sporc_script.proofs.Common.{EditorCommand, EditorLine, editor_line, lines_of}
use Rattle.sporc_script.proofs.EditorReaders.{IsEditorNext, editor_not_skipped, one_editor}
use Rattle.sporc_script.proofs.ScriptLines.{one_reading}
use Rattle.sporc_script.proofs.laws.one_editor_script.Goals as goal

pub returns : goal.returns
returns c = record { one = λ text script other x y. one_reading EditorCommand EditorLine editor_line IsEditorNext one_editor editor_not_skipped (lines_of text) _ 1 script other x y }
