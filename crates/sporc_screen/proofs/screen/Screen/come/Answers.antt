use Rattle.std.proofs.Common.{◌≡◌, ℕ, sym, ◌∙◌, subst, arith}
use Rattle.sporc_screen.proofs.Common.{LeadTo, ScreenModel, base_len, base_len-earlier, inserted_len_le}
use Rattle.sporc_screen.proofs.Keeping.{came_keeps, written_last}
use Rattle.sporc_screen.proofs.screen.Screen.come.Goals as goal

pub both-requires-clause-limit : goal.both-requires-clause-limit
both-requires-clause-limit c =
    let P : ScreenModel → Type 0 = λ s. base_len c.args.form.now ≡ base_len s.draft in
    let base = subst P (sym c.self.view_is) c.requires.base in
    omega (arith, base, c.requires.limit, inserted_len_le c.args.form.now, c.self.invariant.limit)

pub put_line-requires : goal.put_line-requires
put_line-requires c =
    let P : ScreenModel → Type 0 = λ s. base_len c.args.form.now ≡ base_len s.draft in
    let base = subst P (sym c.self.view_is) c.requires.base in
    let Q : ℕ → Type 0 = λ n. LeadTo c.self.inside.since.items n in
    rw c.in_ok-line.ensures.earlier (subst Q (sym (base_len-earlier c.args.form.now c.self.inside.draft base)) c.self.invariant.lead)

pub invariant_of-self-2 : goal.invariant_of-self-2
invariant_of-self-2 c =
    let P : ScreenModel → Type 0 = λ s. base_len c.args.form.now ≡ base_len s.draft in
    let base = subst P (sym c.self.view_is) c.requires.base in
    let s = c.self.inside in
    rw (c.in_ok-put_line.ensures.ok, c.in_ok-line.ensures.later, c.in_ok-line.ensures.earlier)
    (came_keeps (record { draft = s.draft; own = s.own; last = s.last; base = s.base; since = s.since.items }) c.args.form.now base c.requires.limit c.self.invariant)

pub returns-clause-value : goal.returns-clause-value
returns-clause-value c = written_last c.new.result _ _ _ _ c.in_ok-put_line.ensures.ok c.new.ensures.numbers (c.new.ensures.delta ∙ c.in_ok-delta.ensures.ok)
