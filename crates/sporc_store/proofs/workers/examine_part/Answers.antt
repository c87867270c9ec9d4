use Rattle.sporc_store.proofs.Exactly.{exact_more, exact_all}
use Rattle.sporc_store.proofs.workers.examine_part.Goals as goal

pub loop-i-preserved : goal.loop-i-preserved
loop-i-preserved g c =
    exact_more c.loop-i.verdicts.items c.push.new.self.items c.args.entries.now c.loop-i.i c.in_ok-verdict.verdict c.index-entries-i.result c.in_ok-push.ensures.items c.loop-i-test.true
    c.index-entries-i.is c.loop-i.invariant c.in_ok-verdict.ensures

pub returns : goal.returns
returns g c = exact_all c.loop-i.verdicts.items c.args.entries.now c.loop-i.i c.loop-i-test.false c.loop-i.invariant
