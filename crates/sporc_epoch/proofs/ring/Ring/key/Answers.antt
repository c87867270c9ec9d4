use Rattle.std.proofs.Common.{ap, sym, ◌∙◌}
use Rattle.sporc_epoch.proofs.Common.{get, RingModel}
use Rattle.sporc_epoch.proofs.Lookups.{get-entries}
use Rattle.sporc_epoch.proofs.ring.Ring.key.Goals as goal

pub returns : goal.returns
returns c = record {
  value = c.get.ensures.value ∙ sym (get-entries c.self.inside.keys.entries c.args.epoch)
      ∙ ap (λ (r : RingModel). get r.keys c.args.epoch) c.self.view_is;
}
