use Rattle.sporc_epoch.proofs.SealedKeys.{members_named}
use Rattle.sporc_epoch.proofs.laws.wraps_name_the_members.Goals as goal

pub returns : goal.returns
returns c = record { value = members_named }
