use Rattle.std.proofs.Common.{◌≡◌, ◌-◌, ℕ, suc, take, ap, sym, subst, ◌∙◌, arith}
use Rattle.sporc_suffix.proofs.Common.{out_len, forms_in, reached}
use Rattle.sporc_suffix.proofs.InOne.{reached_behind}
use Rattle.sporc_suffix.proofs.blocks.reached_at.Goals as goal

pub returns-else-count-eq0-clause-value : goal.returns-else-count-eq0-clause-value
returns-else-count-eq0-clause-value c =
    let more : c.args.count ≡ suc (c.args.count - 1) = omega (arith, c.if-count-eq0.false) in
    let P : ℕ → Type 0 = λ n. c.out_len.result ≡ reached c.args.base (take n (forms_in c.args.forms.now)) in
    subst P (sym more)
    (c.out_len.ensures.value ∙ ap out_len c.form.ensures.value
    ∙ reached_behind c.args.base (c.args.count - 1) c.args.forms.now c.index-forms-count.result (omega (arith, c.if-count-eq0.false, c.requires.in_bounds)) c.index-forms-count.is)
