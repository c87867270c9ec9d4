use Rattle.std.proofs.Common.{List, ℕ, Option, ap, sym, ◌∙◌}
use Rattle.sporc_play.proofs.Common.{replicate, unwrap_or, epoch_of, epoch_key, state_of, Opening, replay_opening}
use Rattle.sporc_play.proofs.forging.key_there.Goals as goal

pub returns-in-Some : goal.returns-in-Some
returns-in-Some c =
    let client = c.args.client.now in
    let entries = (state_of client).entries in
    ap (λ (key : Option (List ℕ)). unwrap_or key (replicate 32 0)) c.in-Some.ensures.value
    ∙ ap (λ (o : Opening). unwrap_or (epoch_key o.genesis o.kit entries (epoch_of entries)) (replicate 32 0)) (sym (replay_opening client.opening client.log))

pub returns-in-None : goal.returns-in-None
returns-in-None c =
    let client = c.args.client.now in
    let entries = (state_of client).entries in
    ap (λ (key : Option (List ℕ)). unwrap_or key (replicate 32 0)) c.in-None.ensures.value
    ∙ ap (λ (o : Opening). unwrap_or (epoch_key o.genesis o.kit entries (epoch_of entries)) (replicate 32 0)) (sym (replay_opening client.opening client.log))
