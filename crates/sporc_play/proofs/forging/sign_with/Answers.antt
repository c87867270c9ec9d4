use Rattle.std.proofs.Common.{ℕ, ap, ◌∙◌}
use Rattle.sporc_play.proofs.Common.{state_of, unsigned_by, IfOk-weaker}
use Rattle.sporc_play.proofs.Forgeries.{signed_same}
use Rattle.sporc_play.proofs.forging.sign_with.Goals as goal

pub returns-in-Ok-sign-clause-entry : goal.returns-in-Ok-sign-clause-entry
returns-in-Ok-sign-clause-entry c =
    let client = state_of c.args.client.now in
    let f = c.args.forgery.now in
    let random = c.args.random.now in
    IfOk-weaker c.with_signature.result _ _
    (λ bytes e. λ s own is. e ∙ signed_same s client f random c.args.ticket c.in-Ok.entry c.args.signer.now.key c.first_half-randomizer.result c.as_slice.result.now c.in-Ok-sign.signature.items
    (c.in-Ok.ensures.entry s is ∙ ap (λ (leaf : ℕ). unsigned_by s client f random leaf) c.leaf.ensures.value)
    own
    c.first_half-randomizer.ensures.value
    (c.as_slice.ensures.value ∙ c.in-Ok.ensures.message)
    c.in-Ok-sign.ensures.value)
    c.with_signature.ensures
