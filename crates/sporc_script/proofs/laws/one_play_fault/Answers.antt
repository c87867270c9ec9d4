use Rattle.sporc_script.proofs.Common.{Command, PlayLine, IsNext, play_line, lines_of}
use Rattle.sporc_script.proofs.PlayLines.{next_not_skipped, one_next}
use Rattle.sporc_script.proofs.ScriptLines.{not_both, one_fault}
use Rattle.sporc_script.proofs.laws.one_play_fault.Goals as goal

pub returns-clause-one : goal.returns-clause-one
returns-clause-one c = λ text line other x y. one_fault Command PlayLine play_line IsNext one_next next_not_skipped (lines_of text) _ 1 line other x y

pub returns-clause-none : goal.returns-clause-none
returns-clause-none c = λ text script line x y. not_both Command PlayLine play_line IsNext one_next next_not_skipped (lines_of text) _ 1 script line x y
