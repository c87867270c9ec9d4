use Rattle.std.proofs.Common.{◌≡◌, ℕ, true, ap, length, arith, subst, ◌∙◌}
use Rattle.sporc_client.proofs.Common.{is_some, Device, Roster, key_of, Genesis, IsGenesis, fits_version, version_of, epoch_of, roster_of, epoch_le}
use Rattle.sporc_client.proofs.SignedEntries.{length-hash_of}
use Rattle.sporc_client.proofs.SubmitRosters.{few_members, live_fits}
use Rattle.sporc_client.proofs.client.submitting.unsigned.next_header.Goals as goal

pub returns-clause-is_header : goal.returns-clause-is_header
returns-clause-is_header c =
    let line = c.args.line.now in
    let heads = c.heads-heads.ensures in
    let me = c.own_device-me.result in
    let roster = roster_of line.genesis line.entries in
    let here : c.roster-roster.result.now.roster ≡ roster =
    c.roster-roster.ensures.value ∙ ap (λ (g : Genesis). roster_of g c.heads-heads.result.now.entries) heads.genesis ∙ ap (roster_of line.genesis) heads.entries in
    let few = few_members line.genesis line.kit line.entries (subst IsGenesis (c.genesis.ensures.value ∙ heads.genesis) c.genesis.ensures.is_genesis) c.requires.good in
    let live : is_some (key_of roster me) ≡ true = ap (λ (d : Device). is_some (key_of roster d)) c.own_device-me.ensures.value ∙ c.requires.live in
    let fits : fits_version (version_of roster.upgraded) me.number ≡ true = live_fits roster me few live in
    record {
      version = ap (λ (v : ℕ). fits_version v me.number) (c.version_of.ensures.value ∙ ap version_of (c.upgraded.ensures.value ∙ ap (λ (r : Roster). r.upgraded) here)) ∙ fits;
      device = omega arith;
      document = c.genesis.ensures.is_genesis.document;
      author = omega arith;
      number = omega (arith, c.count_of.ensures.within, ap length c.heads-heads.ensures.entries);
      base = omega (arith, c.len.ensures.value);
      base_hash = ap length c.hash.ensures.value ∙ length-hash_of line.genesis line.entries;
      epoch = omega (arith, c.epoch.ensures.value, epoch_le line.entries, ap epoch_of c.heads-heads.ensures.entries);
      leaf = omega arith;
      kind = c.requires.range;
    }
