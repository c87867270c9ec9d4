use Rattle.std.proofs.Common.{◌≡◌, ℕ, List, [], Option, ap, sym, subst, ◌∙◌, arith, Err}
use Rattle.sporc_client.proofs.Common.{Device, Roster, after_change, numbers_of, Genesis, IsGenesis, pairs_in, entry_stream, version_of, epoch_of, roster_of, epoch_le, current_key, sealing_of}
use Rattle.sporc_client.proofs.Common.{unwrap_or, NoPairKey}
use Rattle.sporc_epoch.specs.declared.fault.SealFault.{SealFault}
use Rattle.sporc_epoch.specs.declared.fault.SealFault.TheVariants.{Memory}
use Rattle.sporc_client.proofs.SubmitRosters.{all_paired, can_seal, kind_written, sealed_same}
use Rattle.sporc_client.proofs.client.submitting.unsigned.seal.Goals as goal

pub seal_change_at-requires : goal.seal_change_at-requires
seal_change_at-requires c = record { limit = omega (arith, c.epoch.ensures.value, ap epoch_of c.heads-heads.ensures.entries, epoch_le c.args.line.now.entries, c.requires.can_take.room) }

pub returns-in-Ok : goal.returns-in-Ok
returns-in-Ok c =
    let line = c.args.line.now in
    let change = c.args.change.now in
    let heads = c.heads-heads.ensures in
    let genesis : c.genesis.result.now ≡ line.genesis = c.genesis.ensures.value ∙ heads.genesis in
    let roster : c.roster.result.now.roster ≡ roster_of line.genesis line.entries =
    c.roster.ensures.value ∙ ap (λ (g : Genesis). roster_of g c.heads-heads.result.now.entries) heads.genesis ∙ ap (roster_of line.genesis) heads.entries in
    let members : c.as_slice.result.now ≡ numbers_of (after_change (roster_of line.genesis line.entries) change).members =
    c.as_slice.ensures.value ∙ c.in_ok-members.ensures.ok ∙ ap (λ (r : Roster). numbers_of (after_change r change).members) roster in
    let stream = c.entry_stream.ensures.value ∙ ap (λ (me : Device). entry_stream me c.args.leaf) c.own_device.ensures.value in
    let epoch = c.epoch.ensures.value ∙ ap epoch_of heads.entries in
    let old : c.args.old_key.now ≡ current_key line = sym (ap (λ (key : Option (List ℕ)). unwrap_or key []) c.requires.key) in
    let same : _ ≡ sealing_of line c.args.leaf c.args.new_key.now change =
    λ i. record { change = change; members = members i; document = (genesis i).document; stream = stream i; epoch = epoch i; old = old i; new = c.args.new_key.now } in
    let can = can_seal line change c.as_slice.result.now c.requires.can_take (subst IsGenesis genesis c.genesis.ensures.is_genesis) c.subject_of-subject.ensures.typed members in
    record {
      value = sealed_same _ _ (pairs_in c.pairs.result.now) line.kit.pairs c.in-Ok.body c.in-Ok.ensures.value same c.pairs.ensures.value;
      spelled = c.in-Ok.ensures.spelled (version_of (roster_of line.genesis line.entries).upgraded) (kind_written (roster_of line.genesis line.entries) change c.requires.can_take.fits.0) can.is_change can.few;
    }

apart : (fault : SealFault) (member : ℕ) → fault ≡ NoPairKey member → fault ≡ Memory → ⊥
apart fault member is memory = absurd cc

pub unreachable-requires : goal.unreachable-requires
unreachable-requires c =
    let line = c.args.line.now in
    let change = c.args.change.now in
    let heads = c.heads-heads.ensures in
    let roster : c.roster.result.now.roster ≡ roster_of line.genesis line.entries =
    c.roster.ensures.value ∙ ap (λ (g : Genesis). roster_of g c.heads-heads.result.now.entries) heads.genesis ∙ ap (roster_of line.genesis) heads.entries in
    let members : c.as_slice.result.now ≡ numbers_of (after_change (roster_of line.genesis line.entries) change).members =
    c.as_slice.ensures.value ∙ c.in_ok-members.ensures.ok ∙ ap (λ (r : Roster). numbers_of (after_change r change).members) roster in
    all_paired _ (pairs_in c.pairs.result.now) line.kit.pairs _ c.in-Err-NoPairKey.field-0-0 members c.pairs.ensures.value c.requires.can_take.fits.1
    (c.in-Err-NoPairKey.ensures.value (λ memory. apart c.in-Err-NoPairKey.field-0 c.in-Err-NoPairKey.field-0-0 c.in-Err-NoPairKey.field-0-is memory) ∙ ap Err c.in-Err-NoPairKey.field-0-is)
