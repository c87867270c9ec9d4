use Rattle.std.proofs.Common.{sym, refl, arith, ◌∙◌, ◌+◌}
use Rattle.sporc_session.proofs.Common.{known_of, IsLookAt, is_unsettled, stops}
use Rattle.sporc_session.proofs.Tracing.{and_then, did_none, did_stopped, did_then, stopped_within, was_done, was_stopped}
use Rattle.sporc_session.proofs.Knowing.{counts_then}
use Rattle.sporc_session.proofs.Phasing.{look_small, round_begins, second_settles, second_spent, second_worn}
use Rattle.sporc_session.proofs.Telling.{told, told_counts, was_told, worn_counts, worn_read}
use Rattle.sporc_session.proofs.Wearing.{worn_at}
use Rattle.sporc_session.proofs.phase.second_phase.Goals as goal

pub loop-look-init : goal.loop-look-init
loop-look-init g c = record {
  lock = c.requires.lock;
  counts = record { number = refl; splits = refl; joined = refl };
  low = omega arith;
  shut = refl;
  did = did_none;
}

pub loop-look-preserved : goal.loop-look-preserved
loop-look-preserved g c =
    let t = was_told c.in-Ok.is (told IsLookAt c.look.result c.plain-answer.ensures c.look.ensures.call c.look.ensures.worn) in
    record {
      lock = c.round-one.ensures.lock;
      counts = counts_then (known_of c.args.pass) (known_of c.loop-look.mine) (known_of c.round-one.result.1) c.loop-look.invariant.counts
          (counts_then (known_of c.loop-look.mine) (known_of c.plain-answer.result.1) (known_of c.round-one.result.1) (told_counts t) c.round-one.ensures.counts);
      low = omega (arith, c.if-done-rounds.false);
      shut = c.round-one.ensures.shut ∙ c.loop-look.invariant.shut;
      did = did_then c.loop-look.invariant.did
          (was_done c.in_default.is
          (and_then (round_begins (c.loop-look.invariant.counts.number ∙ c.requires.first) t (sym c.unsettled.ensures ∙ c.if-not-unsettled.false)) (c.round-one.ensures.did (is_unsettled c.args.until) c.loop-look.done)));
    }

pub round-one-requires-clause-limit : goal.round-one-requires-clause-limit
round-one-requires-clause-limit g c = look_small (was_told c.in-Ok.is (told IsLookAt c.look.result c.plain-answer.ensures c.look.ensures.call c.look.ensures.worn))

pub returns-in-Err-clause-phase : goal.returns-in-Err-clause-phase
returns-in-Err-clause-phase g c = second_worn c.loop-look.invariant.low c.in-Err.is (told IsLookAt c.look.result c.plain-answer.ensures c.look.ensures.call c.look.ensures.worn) c.loop-look.invariant.did

pub returns-then-not-unsettled-clause-phase : goal.returns-then-not-unsettled-clause-phase
returns-then-not-unsettled-clause-phase g c =
    let t = was_told c.in-Ok.is (told IsLookAt c.look.result c.plain-answer.ensures c.look.ensures.call c.look.ensures.worn) in
    second_settles (c.loop-look.invariant.counts.number ∙ c.requires.first) t c.loop-look.invariant.low c.loop-look.invariant.did (sym c.unsettled.ensures ∙ c.if-not-unsettled.true)

pub returns-then-done-rounds-clause-phase : goal.returns-then-done-rounds-clause-phase
returns-then-done-rounds-clause-phase g c =
    let t = was_told c.in-Ok.is (told IsLookAt c.look.result c.plain-answer.ensures c.look.ensures.call c.look.ensures.worn) in
    second_spent (c.loop-look.invariant.counts.number ∙ c.requires.first) t (omega (arith, c.loop-look.invariant.low, c.if-done-rounds.true)) c.loop-look.invariant.did (sym c.unsettled.ensures ∙ c.if-not-unsettled.false)

pub returns-in-Err-one-clause-phase : goal.returns-in-Err-one-clause-phase
returns-in-Err-one-clause-phase g c =
    let t = was_told c.in-Ok.is (told IsLookAt c.look.result c.plain-answer.ensures c.look.ensures.call c.look.ensures.worn) in
    stops (stopped_within (c.loop-look.done + 1) c.args.rounds (omega (arith, c.if-done-rounds.false)) (did_stopped c.loop-look.invariant.did
    (was_stopped c.in-Err-one.is
    (and_then (round_begins (c.loop-look.invariant.counts.number ∙ c.requires.first) t (sym c.unsettled.ensures ∙ c.if-not-unsettled.false)) (c.round-one.ensures.did (is_unsettled c.args.until) c.loop-look.done)))))

pub returns-in-Err-clause-counts : goal.returns-in-Err-clause-counts
returns-in-Err-clause-counts g c =
    counts_then (known_of c.args.pass) (known_of c.loop-look.mine) (known_of c.plain-answer.result.1) c.loop-look.invariant.counts (worn_counts c.in-Err.is (told IsLookAt c.look.result c.plain-answer.ensures c.look.ensures.call c.look.ensures.worn))

pub returns-then-not-unsettled-clause-counts : goal.returns-then-not-unsettled-clause-counts
returns-then-not-unsettled-clause-counts g c =
    counts_then (known_of c.args.pass) (known_of c.loop-look.mine) (known_of c.plain-answer.result.1) c.loop-look.invariant.counts (told_counts (was_told c.in-Ok.is (told IsLookAt c.look.result c.plain-answer.ensures c.look.ensures.call c.look.ensures.worn)))

pub returns-then-done-rounds-clause-counts : goal.returns-then-done-rounds-clause-counts
returns-then-done-rounds-clause-counts g c =
    counts_then (known_of c.args.pass) (known_of c.loop-look.mine) (known_of c.plain-answer.result.1) c.loop-look.invariant.counts (told_counts (was_told c.in-Ok.is (told IsLookAt c.look.result c.plain-answer.ensures c.look.ensures.call c.look.ensures.worn)))

pub returns-in-Err-one-clause-counts : goal.returns-in-Err-one-clause-counts
returns-in-Err-one-clause-counts g c =
    let looked = told_counts (was_told c.in-Ok.is (told IsLookAt c.look.result c.plain-answer.ensures c.look.ensures.call c.look.ensures.worn)) in
    counts_then (known_of c.args.pass) (known_of c.loop-look.mine) (known_of c.round-one.result.1) c.loop-look.invariant.counts
    (counts_then (known_of c.loop-look.mine) (known_of c.plain-answer.result.1) (known_of c.round-one.result.1) looked c.round-one.ensures.counts)

pub returns-in-Err-clause-read : goal.returns-in-Err-clause-read
returns-in-Err-clause-read g c = worn_read c.in-Err.is (told IsLookAt c.look.result c.plain-answer.ensures c.look.ensures.call c.look.ensures.worn)

pub returns-in-Err-one-clause-read : goal.returns-in-Err-one-clause-read
returns-in-Err-one-clause-read g c =
    worn_at c.round-one.result.1 c.round-one.result.0 c.in-Err-one.fault c.in-Err-one.is c.round-one.ensures.read
