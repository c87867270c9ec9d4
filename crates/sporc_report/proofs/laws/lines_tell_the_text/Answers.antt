use Rattle.sporc_report.proofs.Committed.{tells_text}
use Rattle.sporc_report.proofs.laws.lines_tell_the_text.Goals as goal

pub returns : goal.returns
returns c = tells_text
