use Rattle.std.proofs.Common.{◌≡◌, ◌≤◌, ◌∙◌, length, take, arith, sym, subst}
use Rattle.sporc_line.proofs.Common.{text_of, LineModel}
use Rattle.sporc_line.proofs.LineKeeps.{form_place, before_form, before_small, text_small}
use Rattle.sporc_line.proofs.line.Line.text_len_at.Goals as goal

pub form-requires : goal.form-requires
form-requires c =
    let within : c.args.i ≤ length c.self.inside.heads.entries = subst (λ (m : LineModel). c.args.i ≤ length m.entries) (sym c.self.view_is) c.requires in
    form_place c.self.invariant c.args.i (omega (arith, within, c.len.ensures.value))

pub returns-then-i-len-clause-within : goal.returns-then-i-len-clause-within
returns-then-i-len-clause-within c =
    omega (arith, text_small c.self.invariant)

pub returns-else-i-len-clause-value : goal.returns-else-i-len-clause-value
returns-else-i-len-clause-value c =
    subst (λ (m : LineModel). c.base_len.result ≡ length (text_of m.genesis m.kit (take c.args.i m.entries))) c.self.view_is
    (c.base_len.ensures.value ∙ before_form c.self.invariant c.args.i c.form.result.now c.form.ensures.value)

pub returns-else-i-len-clause-within : goal.returns-else-i-len-clause-within
returns-else-i-len-clause-within c =
    let same = c.base_len.ensures.value ∙ before_form c.self.invariant c.args.i c.form.result.now c.form.ensures.value in
    omega (arith, same, before_small c.self.invariant c.args.i)
