use Rattle.std.proofs.Common.{◌≡◌, ◌-◌, ◌∙◌, ap, Ok, Result, map, subst, sym, arith}
use Rattle.sporc_store.proofs.Common.{IfErr, IfOk, drop-map, length-map, TailFault, HEAD_LEN, IsUnread, TailTaken, taken_to}
use Rattle.sporc_store.proofs.TailSteps.{begins_at, slice_from}
use Rattle.sporc_store.proofs.tail_reading.read_records.Goals as goal

pub returns-else-first-log-clause-ok : goal.returns-else-first-log-clause-ok
returns-else-first-log-clause-ok c =
    subst (λ (answer : Result TailTaken TailFault). IfOk c.records_from.result (λ tail. answer ≡ Ok (taken_to tail.entries.items tail.whole)))
    (begins_at (map (λ e. e.items) c.args.log.now) _ c.args.bytes.now c.within-start.result c.within.result c.u32.new.self c.in-Ok.first (c.within-start.ensures.rest ∙ slice_from HEAD_LEN c.args.bytes.now)
    c.within-start.ensures.at (c.within.ensures.rest ∙ slice_from HEAD_LEN c.args.bytes.now) c.within.ensures.at c.in-Ok.ensures.ok
    (ap (map (λ e. e.items)) (slice_from (c.in-Ok.first - 1) c.args.log.now) ∙ sym (drop-map (λ e. e.items) (c.in-Ok.first - 1) c.args.log.now))
    c.if-first-lt1.false (omega (arith, length-map c.args.log.now (λ e. e.items))))
    c.records_from.ensures.ok

pub returns-else-first-log-clause-err : goal.returns-else-first-log-clause-err
returns-else-first-log-clause-err c =
    subst (λ (answer : Result TailTaken TailFault). IfErr c.records_from.result (IsUnread answer))
    (begins_at (map (λ e. e.items) c.args.log.now) _ c.args.bytes.now c.within-start.result c.within.result c.u32.new.self c.in-Ok.first (c.within-start.ensures.rest ∙ slice_from HEAD_LEN c.args.bytes.now)
    c.within-start.ensures.at (c.within.ensures.rest ∙ slice_from HEAD_LEN c.args.bytes.now) c.within.ensures.at c.in-Ok.ensures.ok
    (ap (map (λ e. e.items)) (slice_from (c.in-Ok.first - 1) c.args.log.now) ∙ sym (drop-map (λ e. e.items) (c.in-Ok.first - 1) c.args.log.now))
    c.if-first-lt1.false (omega (arith, length-map c.args.log.now (λ e. e.items))))
    c.records_from.ensures.err
