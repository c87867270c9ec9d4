use Rattle.std.proofs.Common.{ap}
use Rattle.sporc_entry.proofs.Common.{err_from_is_err_and, fault_as, values_at, Malformed, wrap_at, goes_on, ends, is_done}
use Rattle.sporc_entry.proofs.change.read_wraps.Goals as goal

pub returns-in_err-wrap : goal.returns-in_err-wrap
returns-in_err-wrap c =
    let p = err_from_is_err_and c.from_residual-in_err-wrap.result c.from_residual-in_err-wrap.ensures.1 in
    rw (p.1, p.2) (λ _. ap (fault_as Malformed) (ends wrap_at c.loop.wraps.items c.args.count c.loop.counter c.loop.cursor c.in_err-wrap.field-0.0.0 (values_at wrap_at c.args.count c.args.cursor.now) c.loop-test.true c.in_err-wrap.ensures c.loop.invariant))

pub loop-preserved : goal.loop-preserved
loop-preserved c = rw c.in_ok-push.ensures.items (goes_on wrap_at c.loop.wraps.items c.args.count c.loop.counter c.loop.cursor c.in_ok-wrap.wrap _ (values_at wrap_at c.args.count c.args.cursor.now) c.loop-test.true c.in_ok-wrap.ensures c.loop.invariant)

pub returns : goal.returns
returns c = ap (fault_as Malformed) (is_done wrap_at c.loop.wraps.items c.args.count c.loop.counter c.loop.cursor (values_at wrap_at c.args.count c.args.cursor.now) c.loop-test.false c.loop.invariant)
