use Rattle.sporc_editor.proofs.AskedReaders.{one_asked}
use Rattle.sporc_editor.proofs.laws.one_asked.Goals as goal

pub returns : goal.returns
returns c = record { one = one_asked }
