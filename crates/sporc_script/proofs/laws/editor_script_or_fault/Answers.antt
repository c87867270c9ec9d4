use Rattle.sporc_script.proofs.Common.{EditorCommand, EditorLine, editor_line, lines_of}
use Rattle.sporc_script.proofs.EditorReaders.{IsEditorNext, editor_or_none}
use Rattle.sporc_script.proofs.ScriptLines.{script_or_fault}
use Rattle.sporc_script.proofs.laws.editor_script_or_fault.Goals as goal

pub returns : goal.returns
returns c = record { either = λ text. script_or_fault EditorCommand EditorLine editor_line IsEditorNext editor_or_none (lines_of text) _ 1 }
