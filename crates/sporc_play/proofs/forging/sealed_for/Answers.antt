use Rattle.std.proofs.Common.{◌≤◌, List, ℕ, length, sym, subst, ◌∙◌}
use Rattle.sporc_play.proofs.Common.{MAX_MEMBERS, IsGenesis, roster_of, Good, state_of, Opening, replay_opening, IfOk-weaker}
use Rattle.sporc_play.proofs.Forgeries.{accepted_members, few_sealed, refused_members}
use Rattle.sporc_play.proofs.forging.sealed_for.Goals as goal

pub returns-in-Ok-clause-within : goal.returns-in-Ok-clause-within
returns-in-Ok-clause-within c =
    let client = c.args.client.now in
    let entries = (state_of client).entries in
    let is : IsGenesis client.opening.genesis = subst IsGenesis (c.genesis-genesis.ensures.value ∙ c.heads.ensures.genesis) c.genesis-genesis.ensures.is_genesis in
    let IsGood : Opening → Type 0 = λ o. Good o.genesis o.kit entries in
    let good = subst IsGood (replay_opening client.opening client.log) c.journal-events.ensures.sound.good in
    let few = few_sealed client.opening.genesis client.opening.kit entries c.args.change.now is good in
    let members = accepted_members c.roster-roster.result.now.roster (roster_of client.opening.genesis entries) c.args.change.now c.roster-roster.ensures.value c.in-Ok.ensures.value in
    let AreFew : List ℕ → Type 0 = λ numbers. length numbers ≤ MAX_MEMBERS in
    IfOk-weaker c.members_after.result _ _ (λ v e. subst AreFew (sym (e ∙ members)) few) c.members_after.ensures.ok

pub returns-in-Err-clause-within : goal.returns-in-Err-clause-within
returns-in-Err-clause-within c =
    let client = c.args.client.now in
    let entries = (state_of client).entries in
    let is : IsGenesis client.opening.genesis = subst IsGenesis (c.genesis-genesis.ensures.value ∙ c.heads.ensures.genesis) c.genesis-genesis.ensures.is_genesis in
    let IsGood : Opening → Type 0 = λ o. Good o.genesis o.kit entries in
    let good = subst IsGood (replay_opening client.opening client.log) c.journal-events.ensures.sound.good in
    let few = few_sealed client.opening.genesis client.opening.kit entries c.args.change.now is good in
    let members = refused_members c.roster-roster.result.now.roster (roster_of client.opening.genesis entries) c.args.change.now _ c.roster-roster.ensures.value c.in-Err.ensures.value in
    let AreFew : List ℕ → Type 0 = λ numbers. length numbers ≤ MAX_MEMBERS in
    IfOk-weaker c.from_slice.result _ _ (λ v e. subst AreFew (sym (e ∙ c.members.ensures.value ∙ members)) few) c.from_slice.ensures.items
