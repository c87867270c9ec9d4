use Rattle.std.proofs.Common.{refl}
use Rattle.sporc_entry.proofs.Common.{err_from_is_err_and, ascending_begins, ascending_ends, ascending_goes_on, ascending_is_done, founder_at}
use Rattle.sporc_entry.specs.Genesis.{founders_at}
use Rattle.sporc_entry.proofs.genesis.read_founders.Goals as goal

pub loop-init : goal.loop-init
loop-init c = rw c.in_ok-founders.ensures.items (ascending_begins founder_at (λ m. m.member) 1 c.args.count c.args.cursor.now)

pub returns-in_err-founder : goal.returns-in_err-founder
unfolding founders_at
returns-in_err-founder c =
    let p = err_from_is_err_and c.from_residual-in_err-founder.result c.from_residual-in_err-founder.ensures.1 in
    rw (p.1, p.2, ascending_ends c.in_err-founder.field-0.0.0 c.loop-test.true c.in_err-founder.ensures c.loop.invariant) (λ _. refl)

pub loop-preserved : goal.loop-preserved
loop-preserved c = rw (c.in_ok-push.ensures.items, c.from-least.ensures) (ascending_goes_on c.in_ok-founder.founder _ c.loop-test.true c.in_ok-founder.ensures c.loop.invariant)

pub returns : goal.returns
unfolding founders_at
returns c = rw (ascending_is_done c.loop-test.false c.loop.invariant) refl
