use Rattle.sporc_member.proofs.Gone.{gone}
use Rattle.sporc_member.proofs.laws.gone_for_good.Goals as goal

pub returns : goal.returns
returns c = record { value = gone }
