use Rattle.std.proofs.Common.{refl}
use Rattle.sporc_keys.proofs.Common.{err_from_is_err_and, pair_at, ascending_begins, ascending_ends, ascending_goes_on, ascending_is_done}
use Rattle.sporc_keys.specs.RingFile.{pairs_at}
use Rattle.sporc_keys.proofs.ring_reading.read_pairs.Goals as goal

pub loop-init : goal.loop-init
loop-init c = rw c.new-pairs.ensures.items (ascending_begins pair_at (λ p. p.member) 0 c.args.count c.args.cursor.now)

pub returns-in_err-pair : goal.returns-in_err-pair
unfolding pairs_at
returns-in_err-pair c =
    let p = err_from_is_err_and c.from_residual.result c.from_residual.ensures.1 in
    rw (p.1, p.2, ascending_ends c.in_err-pair.field-0.0.0 c.loop-test.true c.in_err-pair.ensures c.loop.invariant) (λ _. refl)

pub loop-preserved : goal.loop-preserved
loop-preserved c = rw (c.in_ok-push.ensures.items, c.from-least.ensures) (ascending_goes_on c.in_ok-pair.pair _ c.loop-test.true c.in_ok-pair.ensures c.loop.invariant)

pub returns : goal.returns
unfolding pairs_at
returns c = rw (ascending_is_done c.loop-test.false c.loop.invariant) refl
