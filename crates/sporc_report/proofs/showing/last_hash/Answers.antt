use Rattle.std.proofs.Common.{ap, ◌∙◌, arith}
use Rattle.sporc_report.proofs.Common.{take_all, hash_of, Genesis}
use Rattle.sporc_report.proofs.showing.last_hash.Goals as goal

pub returns : goal.returns
returns g c =
    let heads = c.heads-heads.result.now in
    let e = c.heads-heads.ensures in
    record {
      value = c.hash_at.ensures.value
          ∙ ap (hash_of heads.genesis) (take_all c.len.result heads.entries (omega (arith, c.len.ensures.value)))
          ∙ ap (λ (start : Genesis). hash_of start heads.entries) e.genesis
          ∙ ap (hash_of c.args.client.now.opening.genesis) e.entries;
    }
