use Rattle.std.proofs.Common.{◌+◌, ◌-◌, ◌<◌, ap, length, map, Result, subst, arith}
use Rattle.sporc_store.proofs.Common.{TailFault, IsUnread, TailTaken, taken_to}
use Rattle.sporc_store.proofs.TailSteps.{ends, goes_on, one_left, stops}
use Rattle.sporc_store.proofs.tail_reading.records_from.Goals as goal

pub returns-in-Err-clause-err : goal.returns-in-Err-clause-err
returns-in-Err-clause-err c =
    let count = length c.args.cursor.rest in
    let lt : c.loop-n.n < count = omega (arith, ap length c.rest-n-end.ensures.value) in
    subst (λ (r : Result TailTaken TailFault). IsUnread r c.in-Err.fault)
    (one_left c.loop-n.tail.entries.items (map (λ e. e.items) c.loop-n.ahead.now) count c.loop-n.n c.args.first (c.args.first + c.loop-n.n) c.loop-n.cursor _ lt
    (omega arith) c.loop-n.invariant.so_far)
    (c.in-Err.ensures.goes (count - (c.loop-n.n + 1)))

pub returns-then-not-goes-clause-ok : goal.returns-then-not-goes-clause-ok
returns-then-not-goes-clause-ok c =
    let count = length c.args.cursor.rest in
    let lt : c.loop-n.n < count = omega (arith, ap length c.rest-n-end.ensures.value) in
    stops c.loop-n.tail.entries.items (map (λ e. e.items) c.loop-n.ahead.now) count c.loop-n.n c.args.first (c.args.first + c.loop-n.n) c.loop-n.cursor _
    (taken_to c.take_record.new.tail.entries.items c.take_record.new.tail.whole) c.in-Ok.goes _ lt (omega arith) c.loop-n.invariant.so_far c.if-not-goes.true
    (c.in-Ok.ensures.goes (count - (c.loop-n.n + 1)))

pub loop-n-preserved : goal.loop-n-preserved
loop-n-preserved c =
    let count = length c.args.cursor.rest in
    let lt : c.loop-n.n < count = omega (arith, ap length c.rest-n-end.ensures.value) in
    record {
      so_far =
          goes_on c.loop-n.tail.entries.items c.take_record.new.tail.entries.items (map (λ e. e.items) c.loop-n.ahead.now) (map (λ e. e.items) c.take_record.new.ahead.now) count
          c.loop-n.n c.args.first (c.args.first + c.loop-n.n) c.loop-n.cursor c.take_record.new.cursor
          (taken_to c.take_record.new.tail.entries.items c.take_record.new.tail.whole) c.in-Ok.goes _ lt (omega arith) c.loop-n.invariant.so_far c.if-not-goes.false
          (c.in-Ok.ensures.goes (count - (c.loop-n.n + 1)));
      whole = c.in-Ok.ensures.whole c.if-not-goes.false;
      end = omega (arith, c.in-Ok.ensures.end c.if-not-goes.false, c.loop-n.invariant.end);
      few = omega (arith, c.in-Ok.ensures.entries_within, c.loop-n.invariant.few);
    }

pub returns-clause-ok : goal.returns-clause-ok
returns-clause-ok c =
    ends c.loop-n.tail.entries.items (map (λ e. e.items) c.loop-n.ahead.now) (length c.args.cursor.rest) c.loop-n.n (c.args.first + c.loop-n.n) c.loop-n.cursor c.loop-n.tail.whole _
    (omega (arith, ap length c.rest-n-end.ensures.value)) c.loop-n.invariant.whole c.loop-n.invariant.so_far
