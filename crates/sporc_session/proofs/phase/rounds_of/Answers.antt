use Rattle.std.proofs.Common.{refl, ◌∙◌, ◌+◌, arith}
use Rattle.sporc_session.proofs.Common.{known_of}
use Rattle.sporc_session.proofs.Tracing.{did_none, did_stopped, did_then, stopped_within, was_done, was_stopped}
use Rattle.sporc_session.proofs.Knowing.{counts_then}
use Rattle.sporc_session.proofs.Wearing.{worn_at}
use Rattle.sporc_session.proofs.phase.rounds_of.Goals as goal

pub loop-done-init : goal.loop-done-init
loop-done-init g c = record { lock = c.requires.lock; counts = record { number = refl; splits = refl; joined = refl }; low = omega arith; shut = refl; did = did_none }

pub loop-done-preserved : goal.loop-done-preserved
loop-done-preserved g c = record {
  lock = c.look_and_round-one.ensures.lock;
  counts = counts_then (known_of c.args.pass) (known_of c.loop-done.mine) (known_of c.look_and_round-one.result.1) c.loop-done.invariant.counts c.look_and_round-one.ensures.counts;
  low = omega (arith, c.loop-done-test.true);
  shut = c.look_and_round-one.ensures.shut ∙ c.loop-done.invariant.shut;
  did = did_then c.loop-done.invariant.did (was_done c.in_default.is (c.look_and_round-one.ensures.did c.loop-done.done));
}

pub returns-in-Err-clause-did : goal.returns-in-Err-clause-did
returns-in-Err-clause-did g c = record {
  ends = stopped_within (c.loop-done.done + 1) c.args.rounds (omega (arith, c.loop-done-test.true)) (did_stopped c.loop-done.invariant.did (was_stopped c.in-Err.is (c.look_and_round-one.ensures.did c.loop-done.done)));
}

pub returns-in-Err-clause-read : goal.returns-in-Err-clause-read
returns-in-Err-clause-read g c =
    worn_at c.look_and_round-one.result.1 c.look_and_round-one.result.0 c.in-Err.fault c.in-Err.is c.look_and_round-one.ensures.read
