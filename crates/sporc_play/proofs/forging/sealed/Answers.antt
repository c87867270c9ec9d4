use Rattle.std.proofs.Common.{◌≡◌, ◌≤◌, ℕ, List, Err, ap, sym, subst, ◌∙◌, length, arith}
use Rattle.sporc_play.proofs.Common.{MAX_MEMBERS, Genesis, epoch_of, roster_of, state_of, Opening, replay_opening, IsSmallBody, derived_pairs, forged_sealing, sealed_for, Memory, NoPairKey}
use Rattle.sporc_epoch.specs.declared.fault.SealFault.{SealFault}
use Rattle.sporc_head.proofs.Grows.{epoch_le}
use Rattle.sporc_play.proofs.Forgeries.{forged_paired, forged_same, forged_small}
use Rattle.sporc_play.proofs.forging.sealed.Goals as goal

pub seal_change_at-requires : goal.seal_change_at-requires
seal_change_at-requires c =
    let e = c.heads-heads.ensures in
    record { limit = omega (arith, c.epoch.ensures.value, epoch_le c.heads-heads.result.now.entries, c.len-count.ensures.value, c.len-count.ensures.within) }

apart : (fault : SealFault) (member : ℕ) → fault ≡ NoPairKey member → fault ≡ Memory → ⊥
apart fault member is memory = absurd cc

pub unreachable-requires : goal.unreachable-requires
unreachable-requires c =
    let fault = c.in-Err-NoPairKey.field-0 in
    forged_paired _ _ c.args.header.now.author c.in-Err-NoPairKey.field-0-0
    (c.in_ok-pairs.ensures ∙ ap (derived_pairs c.args.header.now.author) (c.as_slice.ensures.value ∙ sym c.as_slice-2.ensures.value))
    (c.in-Err-NoPairKey.ensures.value (λ memory. apart fault c.in-Err-NoPairKey.field-0-0 c.in-Err-NoPairKey.field-0-is memory) ∙ ap Err c.in-Err-NoPairKey.field-0-is)

pub returns-in-Ok : goal.returns-in-Ok
returns-in-Ok c =
    let client = c.args.client.now in
    let e = c.heads-heads.ensures in
    let opening = sym (replay_opening client.opening client.log) in
    let members = c.in_ok-members.ensures.value ∙ ap (λ (o : Opening). sealed_for (roster_of o.genesis (state_of client).entries) c.args.change.now) opening in
    let named = c.as_slice-2.ensures.value ∙ members in
    let document = ap (λ (g : Genesis). g.document) (c.genesis.ensures.value ∙ e.genesis) ∙ ap (λ (o : Opening). o.genesis.document) opening in
    let epoch = c.epoch.ensures.value ∙ ap epoch_of e.entries in
    let same : _ ≡ forged_sealing (state_of client) c.args.header.now c.args.change.now c.args.new_key.now =
    λ i. record { change = c.args.change.now; members = named i; document = document i; stream = c.stream_of.ensures.value i; epoch = epoch i; old = c.requires.old i; new = c.args.new_key.now } in
    let value = forged_same (state_of client) c.args.header.now c.args.change.now c.args.new_key.now _ _ c.in-Ok.body same
    (c.in_ok-pairs.ensures ∙ ap (derived_pairs c.args.header.now.author) (c.as_slice.ensures.value ∙ sym c.as_slice-2.ensures.value))
    c.in-Ok.ensures.value in
    let AreFew : List ℕ → Type 0 = λ members. length members ≤ MAX_MEMBERS in
    let whole = ap length (sym c.requires.old) ∙ c.told-old_key in
    let few = subst AreFew members c.in_ok-members.ensures.within in
    record {
      value = value;
      small = subst IsSmallBody (sym value) (forged_small (state_of client) c.args.header.now c.args.change.now c.args.new_key.now c.requires.small whole c.told-new_key few);
    }
