use Rattle.std.proofs.Common.{ℕ, List, ◌++◌, flat_map, string_bytes, subst, ap, ◌∙◌}
use Rattle.sporc_report.proofs.Common.{take_all, Roster, member_at, members_text, text_of_member, IsStrictlyIncreasing}
use Rattle.sporc_report.proofs.Parts.{begins_in_err}
use Rattle.sporc_report.proofs.Rosters.{numbered_texts}
use Rattle.sporc_report.proofs.showing.push_roster.Goals as goal

pub returns-clause-ok : goal.returns-clause-ok
returns-clause-ok g c =
    let roster = c.roster-roster.result.now.roster in
    let numbers = c.members-number-items.ensures in
    let out = string_bytes c.args.out.now in
    let text = λ (number : ℕ). text_of_member roster (member_at roster number) in
    c.loop-number.invariant
    ∙ ap (λ (ns : List ℕ). out ++ flat_map text ns) (take_all c.loop-number.number-index c.members-number-items.result.now c.loop-number-test.false ∙ numbers.value)
    ∙ ap (λ (t : List ℕ). out ++ t) (numbered_texts roster roster.members (subst IsStrictlyIncreasing numbers.value numbers.ascending))
    ∙ ap (λ (r : Roster). out ++ members_text r) c.roster-roster.ensures.value

pub returns-in_err-push_numbered-clause-memory : goal.returns-in_err-push_numbered-clause-memory
returns-in_err-push_numbered-clause-memory g c =
    begins_in_err c.from_residual.result (string_bytes c.args.out.now) (string_bytes c.loop-number.out) (string_bytes c.push_numbered.new.out) _ c.loop-number.invariant c.in_err-push_numbered.ensures.memory
