use Rattle.sporc_script.proofs.Common.{EditorCommand, EditorLine, editor_line, lines_of}
use Rattle.sporc_script.proofs.EditorReaders.{IsEditorNext, editor_not_skipped, one_editor}
use Rattle.sporc_script.proofs.ScriptLines.{not_both, one_fault}
use Rattle.sporc_script.proofs.laws.one_editor_fault.Goals as goal

pub returns-clause-one : goal.returns-clause-one
returns-clause-one c = λ text line other x y. one_fault EditorCommand EditorLine editor_line IsEditorNext one_editor editor_not_skipped (lines_of text) _ 1 line other x y

pub returns-clause-none : goal.returns-clause-none
returns-clause-none c = λ text script line x y. not_both EditorCommand EditorLine editor_line IsEditorNext one_editor editor_not_skipped (lines_of text) _ 1 script line x y
