use Rattle.std.proofs.Common.{◌≡◌, ◌<◌, ◌+◌, ◌-◌, ◌/◌, ◌%◌, suc, drop, refl, arith}
use Rattle.sporc_suffix.proofs.Common.{later_over, forms_in, runs_of}
use Rattle.sporc_suffix.proofs.Composed.{length-pairs, few_left}
use Rattle.sporc_suffix.proofs.Kept.{halves, two_more}
use Rattle.sporc_suffix.proofs.runs.+over_runs.Goals as goal

pub over_one-requires-clause-fits : goal.over_one-requires-clause-fits
over_one-requires-clause-fits g t c =
    (halves c.args.q (runs_of c.args.level (forms_in c.args.forms.now)) c.args.from (c.args.from + c.args.from % 2) (c.args.count - c.args.count % 2) c.args.count c.requires.all_runs (omega (arith, c.if-from-count.false, c.requires.in_bounds)) refl refl c.requires.fits).first_fits

pub over_runs-requires : goal.over_runs-requires
over_runs-requires g t c κs within =
    let h =
    halves c.args.q (runs_of c.args.level (forms_in c.args.forms.now)) c.args.from (c.args.from + c.args.from % 2) (c.args.count - c.args.count % 2) c.args.count c.requires.all_runs (omega (arith, c.if-from-count.false, c.requires.in_bounds)) refl refl c.requires.fits in
    let next : c.args.level + 1 ≡ suc c.args.level = omega arith in
    let some : c.args.from < c.args.count = omega (arith, c.if-from-count.false, c.requires.in_bounds) in
    rw (next, c.in_ok-q.ensures.ok) (
      omega (arith, c.decreases, some),
      (
        within,
        (
          c.requires.runs,
          (
            c.requires.limit,
            (
              omega (arith, c.requires.level_limit, some),
              (
                omega (arith, c.requires.all_runs, length-pairs (runs_of c.args.level (forms_in c.args.forms.now)), few_left (runs_of c.args.level (forms_in c.args.forms.now))),
                (omega (arith, some), h.fits),
              ),
            ),
          ),
        ),
      ),
    )

pub returns-in_err-q-2-clause-cost : goal.returns-in_err-q-2-clause-cost
returns-in_err-q-2-clause-cost g t c =
    let some : c.args.from < c.args.count = omega (arith, c.if-from-count.false, c.requires.in_bounds) in (
      omega (arith, c.over_one.ensures.cost, c.over_runs.ensures.cost.0),
      two_more (c.args.count - c.args.from) ((c.args.count - c.args.count % 2) / 2 - (c.args.from + c.args.from % 2) / 2) c.args.steps.now c.over_one.new.steps c.over_runs.new.steps c.over_runs.new.steps (omega (arith, some)) (omega (arith, some))
          c.over_one.ensures.cost.1 c.over_runs.ensures.cost.1 (omega arith),
    )

pub over_one-requires-2-clause-fits : goal.over_one-requires-2-clause-fits
over_one-requires-2-clause-fits g t c =
    let next : c.args.level + 1 ≡ suc c.args.level = omega arith in
    let over : c.in_ok-q-2.q ≡ later_over c.in_ok-q.q (drop ((c.args.from + c.args.from % 2) / 2) (runs_of (suc c.args.level) (forms_in c.args.forms.now))) = rw next at c.in_ok-q-2.ensures.ok in
    rw (over, c.in_ok-q.ensures.ok)
    (halves c.args.q (runs_of c.args.level (forms_in c.args.forms.now)) c.args.from (c.args.from + c.args.from % 2) (c.args.count - c.args.count % 2) c.args.count c.requires.all_runs (omega (arith, c.if-from-count.false, c.requires.in_bounds)) refl refl c.requires.fits).last_fits

pub returns-in_err-q-3-clause-cost : goal.returns-in_err-q-3-clause-cost
returns-in_err-q-3-clause-cost g t c =
    let some : c.args.from < c.args.count = omega (arith, c.if-from-count.false, c.requires.in_bounds) in (
      omega (arith, c.over_one.ensures.cost, c.over_runs.ensures.cost.0, c.over_one-2.ensures.cost),
      two_more (c.args.count - c.args.from) ((c.args.count - c.args.count % 2) / 2 - (c.args.from + c.args.from % 2) / 2) c.args.steps.now c.over_one.new.steps c.over_runs.new.steps c.over_one-2.new.steps (omega (arith, some)) (omega (arith, some))
          c.over_one.ensures.cost.1 c.over_runs.ensures.cost.1 c.over_one-2.ensures.cost.1,
    )

pub returns-clause-ok : goal.returns-clause-ok
returns-clause-ok g t c =
    let next : c.args.level + 1 ≡ suc c.args.level = omega arith in
    let over : c.in_ok-q-2.q ≡ later_over c.in_ok-q.q (drop ((c.args.from + c.args.from % 2) / 2) (runs_of (suc c.args.level) (forms_in c.args.forms.now))) = rw next at c.in_ok-q-2.ensures.ok in
    rw (c.in_ok-q-3.ensures.ok, over, c.in_ok-q.ensures.ok)
    (halves c.args.q (runs_of c.args.level (forms_in c.args.forms.now)) c.args.from (c.args.from + c.args.from % 2) (c.args.count - c.args.count % 2) c.args.count c.requires.all_runs (omega (arith, c.if-from-count.false, c.requires.in_bounds)) refl refl c.requires.fits).whole

pub returns-clause-cost : goal.returns-clause-cost
returns-clause-cost g t c =
    let some : c.args.from < c.args.count = omega (arith, c.if-from-count.false, c.requires.in_bounds) in (
      omega (arith, c.over_one.ensures.cost, c.over_runs.ensures.cost.0, c.over_one-2.ensures.cost),
      two_more (c.args.count - c.args.from) ((c.args.count - c.args.count % 2) / 2 - (c.args.from + c.args.from % 2) / 2) c.args.steps.now c.over_one.new.steps c.over_runs.new.steps c.over_one-2.new.steps (omega (arith, some)) (omega (arith, some))
          c.over_one.ensures.cost.1 c.over_runs.ensures.cost.1 c.over_one-2.ensures.cost.1,
    )
