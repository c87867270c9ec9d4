use Rattle.sporc_xform.proofs.Common.{later, later_step, run_steps}
use Rattle.sporc_xform.proofs.Restated.{Restates-start, Restates-run, later_no_more}
use Rattle.sporc_xform.proofs.transform.later.Goals as goal

pub runs-init : goal.runs-init
runs-init c =
    Restates-start later_step c.new-delta.result c.args.p.now c.args.q.now c.new-steps.result c.new-delta.ensures.value c.new-steps.ensures.value c.requires.limit

pub runs-preserved : goal.runs-preserved
runs-preserved c =
    Restates-run later_step c.runs.delta c.push_later.new.delta c.runs.steps (run_steps c.in-Some.run') c.next.new.self (later c.args.q.now c.args.p.now) c.in-Some.ensures.taken c.in_ok-push_later.ensures.ok (later_no_more (run_steps c.in-Some.run')) c.runs.invariant
