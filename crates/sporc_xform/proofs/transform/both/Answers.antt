use Rattle.sporc_xform.proofs.Common.{earlier, earlier_step, later, later_step, run_steps}
use Rattle.sporc_xform.proofs.Restated.{Restates-start, Restates-run, earlier_no_more, later_no_more}
use Rattle.sporc_xform.proofs.transform.both.Goals as goal

pub runs-init : goal.runs-init
runs-init c = record {
  first = Restates-start earlier_step c.new-first.result c.args.p.now c.args.q.now c.new-steps.result c.new-first.ensures.value c.new-steps.ensures.value c.requires.limit;
  second = Restates-start later_step c.new-second.result c.args.p.now c.args.q.now c.new-steps.result c.new-second.ensures.value c.new-steps.ensures.value c.requires.limit;
}

pub runs-preserved : goal.runs-preserved
runs-preserved c = record {
  first = Restates-run earlier_step c.runs.first c.push_earlier.new.delta c.runs.steps (run_steps c.in-Some.run') c.next.new.self (earlier c.args.p.now c.args.q.now) c.in-Some.ensures.taken c.in_ok-push_earlier.ensures.ok (earlier_no_more (run_steps c.in-Some.run')) c.runs.invariant.first;
  second = Restates-run later_step c.runs.second c.push_later.new.delta c.runs.steps (run_steps c.in-Some.run') c.next.new.self (later c.args.q.now c.args.p.now) c.in-Some.ensures.taken c.in_ok-push_later.ensures.ok (later_no_more (run_steps c.in-Some.run')) c.runs.invariant.second;
}
