use Rattle.std.proofs.Common.{◌≡◌, ◌≤◌, length, take, sym, subst}
use Rattle.sporc_line.proofs.Common.{base_len, text_of, LineModel}
use Rattle.sporc_line.proofs.LineKeeps.{can_pass}
use Rattle.sporc_line.proofs.line.Line.over_forms.Goals as goal

pub pass_forms-requires : goal.pass_forms-requires
pass_forms-requires c =
    let within : c.args.from ≤ length c.self.inside.heads.entries = subst (λ (m : LineModel). c.args.from ≤ length m.entries) (sym c.self.view_is) c.requires.in_bounds in
    let over : base_len c.args.marks ≡ length (text_of c.self.inside.heads.genesis c.self.inside.kit (take c.args.from c.self.inside.heads.entries))
    = subst (λ (m : LineModel). base_len c.args.marks ≡ length (text_of m.genesis m.kit (take c.args.from m.entries))) (sym c.self.view_is) c.requires.base in
    let p = can_pass c.self.invariant c.args.marks c.args.from within over c.requires.limit in
    record { in_bounds = p.within; base = p.base_is; limit = p.limit }
