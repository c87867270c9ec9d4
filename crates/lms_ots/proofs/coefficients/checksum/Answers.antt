use Rattle.std.proofs.Common.{◌≤◌, ◌/◌, arith}
use Rattle.lms_ots.specs.OtsType.{width_of}
use Rattle.lms_ots.proofs.CoefficientLemmas.{shortfall_none, shortfall_more, shortfall_fits, shifted_is}
use Rattle.lms_ots.proofs.coefficients.checksum.Goals as goal

pub coefficients-init : goal.coefficients-init
coefficients-init c = shortfall_none _ _

pub overflow_sub-greatest : goal.overflow_sub-greatest
overflow_sub-greatest c =
    let below = rw c.w-w.ensures.value at c.coef.ensures.within in
    omega (arith, c.greatest-greatest.ensures, below)

pub overflow_add-sum : goal.overflow_add-sum
overflow_add-sum c =
    let place : c.coefficients.i ≤ 256 / width_of c.args.t = rw (← c.w-w.ensures.value) (omega arith) in
    omega (arith, (shortfall_fits c.args.t c.args.q.now c.coefficients.i place).0)

pub coefficients-preserved : goal.coefficients-preserved
coefficients-preserved c =
    shortfall_more c.args.t _ _ _ _ _ _ c.w-w.ensures.value c.coefficients.invariant c.coef.ensures.value
    (rw (← c.greatest-greatest.ensures) c.from-sum.ensures)

pub returns : goal.returns
returns c =
    let low : c.coefficients.i ≤ 256 / width_of c.args.t = rw (← c.w-w.ensures.value) (omega arith) in
    let high : 256 / width_of c.args.t ≤ c.coefficients.i = rw (← c.w-w.ensures.value) (omega arith) in
    record { value = shifted_is c.args.t _ _ _ _ low high c.coefficients.invariant c.ls.ensures.value }
