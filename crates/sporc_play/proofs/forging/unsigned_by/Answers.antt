use Rattle.std.proofs.Common.{List, ℕ, ap, ◌∙◌}
use Rattle.sporc_play.proofs.Common.{Header, fits_version, state_of, forged_body}
use Rattle.sporc_play.proofs.Forgeries.{header_fits, unsigned_same}
use Rattle.sporc_play.proofs.forging.unsigned_by.Goals as goal

pub returns-clause-entry : goal.returns-clause-entry
returns-clause-entry c = λ s is.
    let client = state_of c.args.client.now in
    let f = c.args.forgery.now in
    unsigned_same s client f c.args.random.now c.args.leaf c.forged_header-header.result c.new.result c.new-3.result
    c.forged_header-header.ensures
    (c.new.ensures.value ∙ c.in_ok-body.ensures.value s is
    ∙ ap (λ (key : List ℕ). forged_body s client f.signed.suffix c.forged_header-header.result key f.signed.what) c.second_half-new_key.ensures.value)
    (c.new-3.ensures.value ∙ c.new-2.ensures.items)

pub signed_part-requires-clause-version : goal.signed_part-requires-clause-version
signed_part-requires-clause-version c = ap (λ (h : Header). fits_version h.version h.device) c.forged_header-header.ensures ∙ header_fits c.args.forgery.now.signed.suffix _

pub returns-clause-version : goal.returns-clause-version
returns-clause-version c = ap (λ (h : Header). fits_version h.version h.device) c.forged_header-header.ensures ∙ header_fits c.args.forgery.now.signed.suffix _
