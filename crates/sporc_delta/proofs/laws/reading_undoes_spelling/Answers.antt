use Rattle.sporc_delta.proofs.Grammar.{read_is_spelled, spelled_is_read}
use Rattle.sporc_delta.proofs.laws.reading_undoes_spelling.Goals as goal

pub returns-clause-spelled : goal.returns-clause-spelled
returns-clause-spelled c = read_is_spelled

pub returns-clause-read : goal.returns-clause-read
returns-clause-read c = spelled_is_read
