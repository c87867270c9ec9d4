use Rattle.std.proofs.Common.{[], ap, sym, subst, ◌∙◌, arith}
use Rattle.sporc_suffix.proofs.Common.{Fits, later_over, forms_in, runs_of}
use Rattle.sporc_suffix.proofs.Kept.{one_place}
use Rattle.sporc_suffix.proofs.Passing.{passes}
use Rattle.sporc_suffix.proofs.runs.over_one.Goals as goal

pub restate_later-requires-clause-base : goal.restate_later-requires-clause-base
restate_later-requires-clause-base g c =
    let here = one_place (runs_of c.args.level (forms_in c.args.forms.now)) c.args.from c.args.end c.run_at.result.now (omega (arith, c.if-from-end.false, c.requires.from_in_bounds)) c.requires.end_limit c.requires.in_bounds c.run_at.ensures.value in
    (passes c.args.q c.run_at.result.now [] (subst (Fits c.args.q) here c.requires.fits)).base

pub restate_later-requires-clause-limit : goal.restate_later-requires-clause-limit
restate_later-requires-clause-limit g c =
    let here = one_place (runs_of c.args.level (forms_in c.args.forms.now)) c.args.from c.args.end c.run_at.result.now (omega (arith, c.if-from-end.false, c.requires.from_in_bounds)) c.requires.end_limit c.requires.in_bounds c.run_at.ensures.value in
    (passes c.args.q c.run_at.result.now [] (subst (Fits c.args.q) here c.requires.fits)).limit

pub returns-clause-ok : goal.returns-clause-ok
returns-clause-ok g c =
    let here = one_place (runs_of c.args.level (forms_in c.args.forms.now)) c.args.from c.args.end c.run_at.result.now (omega (arith, c.if-from-end.false, c.requires.from_in_bounds)) c.requires.end_limit c.requires.in_bounds c.run_at.ensures.value in
    c.in_ok-restate_later.ensures.ok ∙ sym (ap (later_over c.args.q) here)
