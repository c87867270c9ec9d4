use Rattle.sporc_hash.proofs.Prefixes as beginnings
use Rattle.sporc_hash.proofs.laws.one_value_one_prefix.Goals as goal

pub returns : goal.returns
returns c = beginnings.one_value_one_prefix
