use Rattle.std.proofs.Common.{ap, ◌∙◌}
use Rattle.sporc_epoch.proofs.Common.{insert, RingModel}
use Rattle.sporc_epoch.proofs.Lookups.{lookups_put}
use Rattle.sporc_epoch.proofs.ring.Ring.put.Goals as goal

pub returns-clause-ok : goal.returns-clause-ok
returns-clause-ok c =
    lookups_put c.self.inside.keys.entries c.insert.new.self.entries c.args.epoch c.args.key (λ q. c.in_ok-insert.ensures.updates.0 q)
    ∙ ap (λ (r : RingModel). insert r.keys c.args.epoch c.args.key) c.self.view_is
