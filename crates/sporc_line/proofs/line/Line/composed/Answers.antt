use Rattle.std.proofs.Common.{◌≡◌, ◌≤◌, ℕ, List, IfOk, length, take, drop, ap, sym, subst, arith}
use Rattle.sporc_line.proofs.Common.{Mark, forms_of, text_of, reached, LineModel}
use Rattle.sporc_suffix.specs.Compositions.{composed}
use Rattle.sporc_line.proofs.FormLengths.{length-forms}
use Rattle.sporc_line.proofs.LineKeeps.{text_before}
use Rattle.sporc_line.proofs.line.Line.composed.Goals as goal

pub composed-requires-clause-in_bounds : goal.composed-requires-clause-in_bounds
composed-requires-clause-in_bounds c =
    let inside = c.self.inside in
    let within : c.args.from ≤ length c.self.inside.heads.entries = subst (λ (m : LineModel). c.args.from ≤ length m.entries) (sym c.self.view_is) c.requires in
    omega (arith, within, ap length c.self.invariant.forms_are, length-forms inside.heads.genesis inside.kit inside.heads.entries)

pub returns : goal.returns
returns c =
    let inside = c.self.inside in
    let from = c.args.from in
    let P : ℕ → List (List Mark) → Type 0 = λ n fs. IfOk c.composed.result (λ d. d ≡ composed n (drop c.args.from fs)) in
    let there = subst (P (reached inside.forms.base (take from inside.forms.forms))) c.self.invariant.forms_are c.composed.ensures.ok in
    let Q : LineModel → Type 0 = λ m. P (length (text_of m.genesis m.kit (take c.args.from m.entries))) (forms_of m.genesis m.kit m.entries) in
    record { ok = subst Q c.self.view_is (subst (λ (n : ℕ). P n (forms_of inside.heads.genesis inside.kit inside.heads.entries)) (sym (text_before c.self.invariant from)) there) }
