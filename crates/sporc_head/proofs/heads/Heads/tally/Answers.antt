use Rattle.std.proofs.Common.{◌<◌, ap, ◌∙◌, arith}
use Rattle.sporc_head.proofs.Common.{DEVICE_NUMBERS, Tally, count_of, last_of, HeadsModel}
use Rattle.sporc_head.proofs.heads.Heads.tally.Goals as goal

pub returns : goal.returns
returns c =
    let d = c.args.device in
    let small : d.number < DEVICE_NUMBERS = omega arith in
    record {
      total = ap (λ (t : Tally). t.count) c.tally_of.ensures ∙ c.self.invariant.tables.count d small ∙ ap (λ (m : HeadsModel). count_of d m.entries) c.self.view_is;
      last = ap (λ (t : Tally). t.last) c.tally_of.ensures ∙ c.self.invariant.tables.last d small ∙ ap (λ (m : HeadsModel). last_of d m.entries) c.self.view_is;
    }
