use Rattle.std.proofs.Common.{◌≡◌, ◌<◌, min, take, arith, ap, sym, ◌∙◌}
use Rattle.sporc_xform.proofs.Common.{first_len, first_text, without}
use Rattle.sporc_xform.proofs.Steps.{earlier_text, later_text, text_base, both_runs, no_steps}
use Rattle.sporc_xform.proofs.side_by_side.next_run.Goals as goal

pub returns-then-inserts-clause-taken : goal.returns-then-inserts-clause-taken
returns-then-inserts-clause-taken c =
    earlier_text c.args.p.now c.take.new.self _ c.take.result (sym c.inserts.ensures.value ∙ c.if-inserts.true) (c.take.ensures.text ∙ ap (λ n. take n (first_text c.args.p.now)) c.first_len-len.ensures.value)
    (c.take.ensures.left ∙ ap (λ n. without n c.args.p.now) c.first_len-len.ensures.value)

pub returns-then-inserts-clause-over : goal.returns-then-inserts-clause-over
returns-then-inserts-clause-over c = record {
  base = sym (text_base c.args.p.now c.take.new.self c.take.result (sym c.inserts.ensures.value ∙ c.if-inserts.true) (c.take.ensures.text ∙ ap (λ n. take n (first_text c.args.p.now)) c.first_len-len.ensures.value)
      (c.take.ensures.left ∙ ap (λ n. without n c.args.p.now) c.first_len-len.ensures.value)) ∙ c.requires.base;
  first_none_empty = c.take.ensures.none_empty c.requires.first_none_empty;
  second_none_empty = c.requires.second_none_empty;
}

pub returns-then-inserts-2-clause-taken : goal.returns-then-inserts-2-clause-taken
returns-then-inserts-2-clause-taken c =
    let t = c.take-then-inserts-2 in
    later_text c.args.p.now c.args.q.now t.new.self t.result c.requires.first_none_empty (sym c.inserts.ensures.value ∙ c.if-inserts.false) (sym c.inserts-2.ensures.value ∙ c.if-inserts-2.true)
    (t.ensures.text ∙ ap (λ n. take n (first_text c.args.q.now)) c.first_len-len-then-inserts-2.ensures.value) (t.ensures.left ∙ ap (λ n. without n c.args.q.now) c.first_len-len-then-inserts-2.ensures.value)

pub returns-then-inserts-2-clause-over : goal.returns-then-inserts-2-clause-over
returns-then-inserts-2-clause-over c =
    let t = c.take-then-inserts-2 in
    record {
      base = c.requires.base ∙ text_base c.args.q.now t.new.self t.result (sym c.inserts-2.ensures.value ∙ c.if-inserts-2.true)
          (t.ensures.text ∙ ap (λ n. take n (first_text c.args.q.now)) c.first_len-len-then-inserts-2.ensures.value) (t.ensures.left ∙ ap (λ n. without n c.args.q.now) c.first_len-len-then-inserts-2.ensures.value);
      first_none_empty = c.requires.first_none_empty;
      second_none_empty = t.ensures.none_empty c.requires.second_none_empty;
    }

pub returns-then-count-eq0-clause-end : goal.returns-then-count-eq0-clause-end
returns-then-count-eq0-clause-end c =
    let none : min (first_len c.args.p.now) (first_len c.args.q.now) ≡ 0 = rw (← c.first_len.ensures.value, ← c.first_len-2.ensures.value) (sym c.min-count.ensures ∙ c.if-count-eq0.true) in
    no_steps c.args.p.now c.args.q.now c.requires.first_none_empty c.requires.second_none_empty (sym c.inserts.ensures.value ∙ c.if-inserts.false) (sym c.inserts-2.ensures.value ∙ c.if-inserts-2.false) c.requires.base none

pub returns-clause-taken : goal.returns-clause-taken
returns-clause-taken c =
    let least : c.min-count.result ≡ min (first_len c.args.p.now) (first_len c.args.q.now) = rw (← c.first_len.ensures.value, ← c.first_len-2.ensures.value) c.min-count.ensures in
    let some : 0 < c.min-count.result = omega arith in
    rw (c.removes.ensures.value, c.removes-2.ensures.value) (both_runs c.args.p.now c.args.q.now c.take-2.new.self c.take-3.new.self c.min-count.result
    (sym c.inserts.ensures.value ∙ c.if-inserts.false) (sym c.inserts-2.ensures.value ∙ c.if-inserts-2.false) least some c.take-2.ensures.left c.take-3.ensures.left).steps_are

pub returns-clause-over : goal.returns-clause-over
returns-clause-over c =
    let least : c.min-count.result ≡ min (first_len c.args.p.now) (first_len c.args.q.now) = rw (← c.first_len.ensures.value, ← c.first_len-2.ensures.value) c.min-count.ensures in
    let some : 0 < c.min-count.result = omega arith in
    record {
      base = (both_runs c.args.p.now c.args.q.now c.take-2.new.self c.take-3.new.self c.min-count.result
          (sym c.inserts.ensures.value ∙ c.if-inserts.false) (sym c.inserts-2.ensures.value ∙ c.if-inserts-2.false) least some c.take-2.ensures.left c.take-3.ensures.left).base c.requires.base;
      first_none_empty = c.take-2.ensures.none_empty c.requires.first_none_empty;
      second_none_empty = c.take-3.ensures.none_empty c.requires.second_none_empty;
    }
