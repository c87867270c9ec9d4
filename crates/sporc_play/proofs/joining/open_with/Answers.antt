use Rattle.std.proofs.Common.{◌≡◌, ◌++◌, None, Option, ap, string_bytes, subst, sym, ◌∙◌}
use Rattle.sporc_play.proofs.Common.{get, first_of, Genesis, open_checks, LineOpenFault, join_line, joining_with}
use Rattle.sporc_play.proofs.Becoming.{ok_then}
use Rattle.sporc_play.proofs.joining.open_with.Goals as goal

pub returns-in-Ok-clause-line : goal.returns-in-Ok-clause-line
returns-in-Ok-clause-line c =
    ok_then c.push_start.result _ _ c.push_start.ensures.ok (λ told s is same.
    let opens : first_of (open_checks s.genesis (get c.args.ring.keys 0)) ≡ None = subst (λ (g : Genesis). first_of (open_checks g (get c.args.ring.keys 0)) ≡ None) same c.in-Ok.ensures.fault in
    told ∙ ap (λ (fault : Option LineOpenFault). string_bytes c.args.out.now ++ join_line c.args.seat.now.device (joining_with c.args.ring.keys fault)) (sym opens))
