use Rattle.sporc_keys.proofs.Sharing.{two_share}
use Rattle.sporc_keys.proofs.laws.two_share_one_key.Goals as goal

pub returns : goal.returns
returns c = record { one = two_share }
