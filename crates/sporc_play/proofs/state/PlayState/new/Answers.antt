use Rattle.std.proofs.Common.{rules, ◌≡◌, true, false, arith, length, sym, subst, ◌∙◌}
use Rattle.sporc_play.proofs.Common.{Genesis, IsGenesis, has_admin}
use Rattle.sporc_play.proofs.Opened.{admin_among, opened_all, opened_none}
use Rattle.sporc_play.proofs.state.PlayState.new.Goals as goal

pub returns-then-not-has_admin : goal.returns-then-not-has_admin
returns-then-not-has_admin c =
    let lines = c.args.lines.now in
    let stands = c.in_ok-state.ensures in
    let none : c.has_admin.result ≡ false = search rules in
    let unfounded : has_admin lines ≡ false = admin_among lines _ _ stands ∙ sym c.has_admin.ensures ∙ none in
    record { value = opened_none lines _ unfounded stands }

pub open_founders-requires-clause-genesis : goal.open_founders-requires-clause-genesis
open_founders-requires-clause-genesis c =
    let lines = c.args.lines.now in
    let stands = c.in_ok-state.ensures in
    let some : c.has_admin.result ≡ true = search rules in
    let founded : has_admin lines ≡ true = admin_among lines _ _ stands ∙ sym c.has_admin.ensures ∙ some in
    subst (λ (g : Genesis). IsGenesis g) (sym stands.genesis) (c.requires.declared.genesis founded)

pub returns : goal.returns
returns c =
    let lines = c.args.lines.now in
    let some : c.has_admin.result ≡ true = search rules in
    let founded : has_admin lines ≡ true = admin_among lines _ _ c.in_ok-state.ensures ∙ sym c.has_admin.ensures ∙ some in
    record { value = opened_all lines (length lines) _ founded (omega arith) c.in_ok-open_founders.ensures }
