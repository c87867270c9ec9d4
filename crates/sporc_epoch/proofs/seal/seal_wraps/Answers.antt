use Rattle.std.proofs.Common.{arith}
use Rattle.sporc_epoch.proofs.SpelledBodies.{all_small}
use Rattle.sporc_epoch.proofs.seal.seal_wraps.Goals as goal

pub returns-clause-typed : goal.returns-clause-typed
returns-clause-typed c = (omega (arith, c.fits-key, c.told-key), all_small c.args.members.now (λ i. omega (arith, c.type_inv.members i)))
