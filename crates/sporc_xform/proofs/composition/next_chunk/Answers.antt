use Rattle.std.proofs.Common.{◌≡◌, ◌<◌, min, take, arith, ap, sym, ◌∙◌}
use Rattle.sporc_xform.proofs.Common.{first_len, first_text, without}
use Rattle.sporc_xform.proofs.Composing.{take_second, take_removal, take_through, no_chunk}
use Rattle.sporc_xform.proofs.composition.next_chunk.Goals as goal

pub returns-then-inserts-clause-row : goal.returns-then-inserts-clause-row
returns-then-inserts-clause-row c =
    let t = take_second c.args.p.now c.args.q.now c.take.new.self c.take.result c.requires (sym c.inserts.ensures.value ∙ c.if-inserts.true)
    (c.take.ensures.text ∙ ap (λ n. take n (first_text c.args.q.now)) c.first_len-len.ensures.value) (c.take.ensures.left ∙ ap (λ n. without n c.args.q.now) c.first_len-len.ensures.value) in
    record { between = t.between; first_none_empty = c.requires.first_none_empty; second_none_empty = c.take.ensures.none_empty c.requires.second_none_empty }

pub returns-then-inserts-clause-taken : goal.returns-then-inserts-clause-taken
returns-then-inserts-clause-taken c =
    (take_second c.args.p.now c.args.q.now c.take.new.self c.take.result c.requires (sym c.inserts.ensures.value ∙ c.if-inserts.true)
    (c.take.ensures.text ∙ ap (λ n. take n (first_text c.args.q.now)) c.first_len-len.ensures.value) (c.take.ensures.left ∙ ap (λ n. without n c.args.q.now) c.first_len-len.ensures.value)).taken

pub returns-then-removes-clause-row : goal.returns-then-removes-clause-row
returns-then-removes-clause-row c =
    let n = c.take-then-removes in
    let t = take_removal c.args.p.now c.args.q.now n.new.self c.requires (sym c.inserts.ensures.value ∙ c.if-inserts.false) (sym c.removes.ensures.value ∙ c.if-removes.true)
    (n.ensures.left ∙ ap (λ k. without k c.args.p.now) c.first_len-len-then-removes.ensures.value) in
    record { between = t.between; first_none_empty = n.ensures.none_empty c.requires.first_none_empty; second_none_empty = c.requires.second_none_empty }

pub returns-then-removes-clause-taken : goal.returns-then-removes-clause-taken
returns-then-removes-clause-taken c =
    let n = c.take-then-removes in
    rw c.first_len-len-then-removes.ensures.value (take_removal c.args.p.now c.args.q.now n.new.self c.requires (sym c.inserts.ensures.value ∙ c.if-inserts.false) (sym c.removes.ensures.value ∙ c.if-removes.true)
    (n.ensures.left ∙ ap (λ k. without k c.args.p.now) c.first_len-len-then-removes.ensures.value)).taken

pub returns-then-count-eq0-clause-end : goal.returns-then-count-eq0-clause-end
returns-then-count-eq0-clause-end c =
    let none : min (first_len c.args.p.now) (first_len c.args.q.now) ≡ 0 = rw (← c.first_len.ensures.value, ← c.first_len-2.ensures.value) (sym c.min-count.ensures ∙ c.if-count-eq0.true) in
    no_chunk c.args.p.now c.args.q.now c.requires (sym c.inserts.ensures.value ∙ c.if-inserts.false) (sym c.removes.ensures.value ∙ c.if-removes.false) none

pub returns-clause-row : goal.returns-clause-row
returns-clause-row c =
    let least : c.min-count.result ≡ min (first_len c.args.p.now) (first_len c.args.q.now) = rw (← c.first_len.ensures.value, ← c.first_len-2.ensures.value) c.min-count.ensures in
    let some : 0 < c.min-count.result = omega arith in
    let t = take_through c.inserts-inserted.result c.removes-removed.result c.min-count.result c.take-text.result c.args.p.now c.args.q.now c.take-text.new.self c.take-2.new.self
    c.inserts-inserted.ensures.value c.removes-removed.ensures.value c.requires (sym c.inserts.ensures.value ∙ c.if-inserts.false) (sym c.removes.ensures.value ∙ c.if-removes.false) least some c.take-text.ensures.text c.take-text.ensures.left c.take-2.ensures.left in
    record { between = t.between; first_none_empty = c.take-text.ensures.none_empty c.requires.first_none_empty; second_none_empty = c.take-2.ensures.none_empty c.requires.second_none_empty }

pub returns-clause-taken : goal.returns-clause-taken
returns-clause-taken c =
    let least : c.min-count.result ≡ min (first_len c.args.p.now) (first_len c.args.q.now) = rw (← c.first_len.ensures.value, ← c.first_len-2.ensures.value) c.min-count.ensures in
    let some : 0 < c.min-count.result = omega arith in
    rw c.through.ensures.value (take_through c.inserts-inserted.result c.removes-removed.result c.min-count.result c.take-text.result c.args.p.now c.args.q.now c.take-text.new.self c.take-2.new.self
    c.inserts-inserted.ensures.value c.removes-removed.ensures.value c.requires (sym c.inserts.ensures.value ∙ c.if-inserts.false) (sym c.removes.ensures.value ∙ c.if-removes.false) least some c.take-text.ensures.text c.take-text.ensures.left c.take-2.ensures.left).taken
