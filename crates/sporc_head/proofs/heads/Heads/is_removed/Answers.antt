use Rattle.std.proofs.Common.{ap, ◌∙◌}
use Rattle.sporc_head.proofs.Common.{is_removed, HeadsModel, is_gone}
use Rattle.sporc_head.proofs.heads.Heads.is_removed.Goals as goal

pub returns : goal.returns
returns c = record {
  value = c.is_gone.ensures ∙ ap (is_gone c.args.device) c.as_slice.ensures.value ∙ c.self.invariant.tables.gone c.args.device
      ∙ ap (λ (m : HeadsModel). is_removed c.args.device m.entries) c.self.view_is;
}
