use Rattle.sporc_xform.proofs.Common.{earlier, earlier_step, run_steps}
use Rattle.sporc_xform.proofs.Restated.{Restates-start, Restates-run, earlier_no_more}
use Rattle.sporc_xform.proofs.transform.earlier.Goals as goal

pub runs-init : goal.runs-init
runs-init c =
    Restates-start earlier_step c.new-delta.result c.args.p.now c.args.q.now c.new-steps.result c.new-delta.ensures.value c.new-steps.ensures.value c.requires.limit

pub runs-preserved : goal.runs-preserved
runs-preserved c =
    Restates-run earlier_step c.runs.delta c.push_earlier.new.delta c.runs.steps (run_steps c.in-Some.run') c.next.new.self (earlier c.args.p.now c.args.q.now) c.in-Some.ensures.taken c.in_ok-push_earlier.ensures.ok (earlier_no_more (run_steps c.in-Some.run')) c.runs.invariant
