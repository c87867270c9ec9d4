use Rattle.std.proofs.Common.{List, ℕ, ◌+◌, length, ap, sym, ◌∙◌}
use Rattle.sporc_play.proofs.Common.{Genesis, count_of, epoch_of, roster_of, first_device, Roster, state_of, Opening, replay_opening, base_by, epoch_by, number_by, version_by}
use Rattle.sporc_play.proofs.Forgeries.{header_same}
use Rattle.sporc_play.proofs.forging.forged_header.Goals as goal

pub returns : goal.returns
returns c =
    let client = c.args.client.now in
    let f = c.args.forgery.now in
    let e = c.heads-heads.ensures in
    let suffix = f.signed.suffix in
    header_same (state_of client) f c.args.leaf _ _ _ _ _ _ _ _ _
    (c.version_by-version.ensures ∙ ap (version_by suffix) (c.upgraded.ensures.value ∙ ap (λ (r : Roster). r.upgraded) (c.roster.ensures.value ∙ ap (λ (o : Opening). roster_of o.genesis (state_of client).entries) (sym (replay_opening client.opening client.log)))))
    c.device_in.ensures
    (ap (λ (g : Genesis). g.document) (c.genesis.ensures.value ∙ e.genesis) ∙ ap (λ (o : Opening). o.genesis.document) (sym (replay_opening client.opening client.log)))
    (c.number_by.ensures ∙ ap (λ (n : ℕ). number_by suffix (n + 1)) (c.count_of.ensures.value ∙ ap (count_of (first_device f.member)) e.entries))
    c.value_at.ensures
    (c.base_by-base.ensures ∙ ap (base_by suffix) (c.len.ensures.value ∙ ap (λ (entries : List (List ℕ)). length entries) e.entries))
    (c.epoch_by.ensures ∙ ap (epoch_by suffix) (c.epoch.ensures.value ∙ ap epoch_of e.entries))
    c.leaf_by.ensures
    c.kind_of.ensures
