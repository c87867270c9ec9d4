use Rattle.sporc_epoch.proofs.SealedKeys.{new_opens, previous_opens}
use Rattle.sporc_epoch.proofs.laws.sealed_keys_open.Goals as goal

pub returns-clause-new : goal.returns-clause-new
returns-clause-new c = new_opens

pub returns-clause-previous : goal.returns-clause-previous
returns-clause-previous c = previous_opens
