use Rattle.std.proofs.Common.{List, ℕ, take, length, ap, sym, ◌∙◌, arith}
use Rattle.sporc_play.proofs.Common.{Genesis, hash_of, state_of, Opening, replay_opening}
use Rattle.sporc_play.proofs.Forgeries.{value_there}
use Rattle.sporc_play.proofs.forging.value_at.Goals as goal

pub returns-then-base-len : goal.returns-then-base-len
returns-then-base-len c =
    let client = c.args.client.now in
    let base = c.args.base in
    let heads = c.heads-heads.result.now in
    let e = c.heads-heads.ensures in
    c.hash_at.ensures.value
    ∙ ap (λ (g : Genesis). hash_of g (take base heads.entries)) e.genesis
    ∙ ap (λ (entries : List (List ℕ)). hash_of client.opening.genesis (take base entries)) e.entries
    ∙ ap (λ (o : Opening). hash_of o.genesis (take base (state_of client).entries)) (sym (replay_opening client.opening client.log))
    ∙ value_there (state_of client) base (omega (arith, c.if-base-len.true, c.len.ensures.value, ap length e.entries))
