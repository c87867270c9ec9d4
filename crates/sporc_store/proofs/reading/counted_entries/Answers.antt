use Rattle.std.proofs.Common.{◌≡◌, ◌++◌, ◌∷◌, [], ◌-◌, ◌+◌, ℕ, List, length, length-append, ap, subst, sym, arith, ◌∙◌}
use Rattle.sporc_store.proofs.Common.{read_to, entries_at}
use Rattle.sporc_store.proofs.Taking.{read_from, reads_on, reads_cut, reads_behind}
use Rattle.sporc_store.proofs.reading.counted_entries.Goals as goal

pub returns-in-Err-clause-ok : goal.returns-in-Err-clause-ok
returns-in-Err-clause-ok c =
    reads_cut c.loop.entries.items c.args.count c.loop.counter c.loop.cursor c.in-Err.field-0.0 (entries_at c.args.count c.args.cursor.now) c.loop-test.true c.in-Err.ensures.err
    c.loop.invariant.so_far

pub loop-preserved : goal.loop-preserved
loop-preserved c =
    let e = c.in-Ok.bytes.now in
    let pushed : c.push.new.self.items ≡ c.loop.entries.items ++ e ∷ [] = c.in_ok-push-in-Ok.ensures.items ∙ ap (λ (x : List ℕ). c.loop.entries.items ++ x ∷ []) c.new.ensures in
    record {
      few = omega (arith, ap length pushed, length-append c.loop.entries.items (e ∷ []), c.loop.invariant.few);
      so_far = subst (λ (es : List (List ℕ)). read_from es (c.args.count - (c.loop.counter + 1)) c.counted.new.self ≡ entries_at c.args.count c.args.cursor.now) (sym pushed)
          (reads_on c.loop.entries.items c.args.count c.loop.counter c.loop.cursor c.counted.new.self e (entries_at c.args.count c.args.cursor.now) c.loop-test.true c.in-Ok.ensures.ok
          c.loop.invariant.so_far);
    }

pub returns-clause-ok : goal.returns-clause-ok
returns-clause-ok c =
    ap (read_to c.loop.entries.items) c.stop_at_end-stop.ensures.value
    ∙ reads_behind c.loop.entries.items c.args.count c.loop.counter c.loop.cursor (entries_at c.args.count c.args.cursor.now) c.loop-test.false c.loop.invariant.so_far
