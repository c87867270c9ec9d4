use Rattle.std.proofs.Common.{◌≤◌, ◌-◌, length, arith, sym, subst}
use Rattle.sporc_line.proofs.Common.{LineModel}
use Rattle.sporc_line.proofs.LineKeeps.{form_place}
use Rattle.sporc_line.proofs.line.Line.form.Goals as goal

pub form-requires : goal.form-requires
form-requires c =
    let within : c.args.i ≤ length c.self.inside.heads.entries = subst (λ (m : LineModel). c.args.i ≤ length m.entries) (sym c.self.view_is) c.requires.in_bounds in
    form_place c.self.invariant (c.args.i - 1) (omega (arith, within, c.requires.positive))
