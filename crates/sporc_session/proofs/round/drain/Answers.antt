use Rattle.std.proofs.Common.{refl, ◌∙◌}
use Rattle.sporc_session.proofs.Common.{known_of}
use Rattle.sporc_session.proofs.Tracing.{did_none}
use Rattle.sporc_session.proofs.Knowing.{counts_then}
use Rattle.sporc_session.proofs.Rounding.{drain_done, drain_fails, drain_more, now_small}
use Rattle.sporc_session.proofs.Wearing.{worn_at}
use Rattle.sporc_session.proofs.round.drain.Goals as goal

pub loop-more-init : goal.loop-more-init
loop-more-init g c = record {
  lock = c.requires.lock;
  counts = record { number = refl; splits = refl; joined = refl };
  small = c.requires.limit;
  shut = refl;
  did = λ entry refusal words count ready n. did_none;
}

pub loop-more-preserved : goal.loop-more-preserved
loop-more-preserved g c = record {
  lock = c.gather-gathered.ensures.lock;
  counts = counts_then (known_of c.args.pass) (known_of c.loop-more.mine) (known_of c.gather-gathered.result.1) c.loop-more.invariant.counts c.gather-gathered.ensures.counts;
  small = (now_small c.in-Ok.is c.gather-gathered.ensures.gathered).1;
  shut = c.gather-gathered.ensures.shut ∙ c.loop-more.invariant.shut;
  did = λ entry refusal words count ready n. drain_more n entry refusal c.loop-more-test.true (c.loop-more.invariant.did entry refusal words count ready n) c.in-Ok.is c.gather-gathered.ensures.gathered;
}

pub returns-in-Err-clause-did : goal.returns-in-Err-clause-did
returns-in-Err-clause-did g c entry refusal words count ready n =
    record { ends = drain_fails n entry refusal c.loop-more-test.true (c.loop-more.invariant.did entry refusal words count ready n) c.in-Err.is c.gather-gathered.ensures.gathered }

pub returns-clause-did : goal.returns-clause-did
returns-clause-did g c entry refusal words count ready n =
    record { ends = drain_done n c.loop-more.now entry refusal c.loop-more-test.false (c.loop-more.invariant.did entry refusal words count ready n) }

pub returns-in-Err-clause-read : goal.returns-in-Err-clause-read
returns-in-Err-clause-read g c =
    worn_at c.gather-gathered.result.1 c.gather-gathered.result.0 c.in-Err.fault c.in-Err.is c.gather-gathered.ensures.read
