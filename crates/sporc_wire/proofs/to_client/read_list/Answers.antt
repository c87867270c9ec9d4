use Rattle.std.proofs.Common.{ap, ◌-◌, ◌^◌}
use Rattle.sporc_wire.proofs.Common.{counted_at, fault_as, values_at, goes_on, ends, is_done, Bad}
use Rattle.std.proofs.lemmas.Result.{err_from_is_err_and}
use Rattle.sporc_wire.proofs.to_client.read_list.Goals as goal

pub returns-in_err-entry : goal.returns-in_err-entry
returns-in_err-entry c =
    let p = err_from_is_err_and c.from_residual-in_err-entry.result c.from_residual-in_err-entry.ensures.1 in
    rw (p.1, p.2) (λ _. ap (fault_as Bad) (ends (counted_at (2 ^ 32 - 1)) c.loop.entries c.args.count c.loop.counter c.loop.cursor c.in_err-entry.field-0.0.0 (values_at (counted_at (2 ^ 32 - 1)) c.args.count c.args.cursor.now) c.loop-test.true c.in_err-entry.ensures.err c.loop.invariant))

pub loop-preserved : goal.loop-preserved
loop-preserved c =
    let read = c.in_ok-entry.ensures.ok in
    rw (c.in_ok-push.ensures.ok, c.in_ok-copy.ensures.items) (goes_on (counted_at (2 ^ 32 - 1)) c.loop.entries c.args.count c.loop.counter c.loop.cursor c.in_ok-entry.entry.now _ (values_at (counted_at (2 ^ 32 - 1)) c.args.count c.args.cursor.now) c.loop-test.true read c.loop.invariant)

pub returns : goal.returns
returns c = ap (fault_as Bad) (is_done (counted_at (2 ^ 32 - 1)) c.loop.entries c.args.count c.loop.counter c.loop.cursor (values_at (counted_at (2 ^ 32 - 1)) c.args.count c.args.cursor.now) c.loop-test.false c.loop.invariant)
