use Rattle.std.proofs.Common.{ap, ◌∙◌}
use Rattle.sporc_epoch.proofs.Common.{RingModel}
use Rattle.sporc_epoch.proofs.Lookups.{same_lookups}
use Rattle.sporc_epoch.proofs.ring.Ring.reserve.Goals as goal

pub returns-clause-unchanged : goal.returns-clause-unchanged
returns-clause-unchanged c =
    same_lookups c.self.inside.keys.entries c.reserve.new.self.entries (λ q. c.reserve.ensures.entries.2 q)
    ∙ ap (λ (r : RingModel). r.keys) c.self.view_is
