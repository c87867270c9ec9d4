use Rattle.sporc_script.proofs.Common.{Command, PlayLine, IsNext, play_line, lines_of}
use Rattle.sporc_script.proofs.PlayLines.{next_or_none}
use Rattle.sporc_script.proofs.ScriptLines.{script_or_fault}
use Rattle.sporc_script.proofs.laws.play_script_or_fault.Goals as goal

pub returns : goal.returns
returns c = record { either = λ text. script_or_fault Command PlayLine play_line IsNext next_or_none (lines_of text) _ 1 }
