use Rattle.sporc_script.proofs.Common.{Command, PlayLine, IsNext, play_line, lines_of}
use Rattle.sporc_script.proofs.PlayLines.{next_not_skipped, one_next}
use Rattle.sporc_script.proofs.ScriptLines.{one_reading}
use Rattle.sporc_script.proofs.laws.one_play_script.Goals as goal

pub returns : goal.returns
returns c = record { one = λ text script other x y. one_reading Command PlayLine play_line IsNext one_next next_not_skipped (lines_of text) _ 1 script other x y }
