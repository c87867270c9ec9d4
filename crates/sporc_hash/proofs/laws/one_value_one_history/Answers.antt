use Rattle.sporc_hash.proofs.SameHistory as same
use Rattle.sporc_hash.proofs.laws.one_value_one_history.Goals as goal

pub returns : goal.returns
returns c = same.one_value_one_history
