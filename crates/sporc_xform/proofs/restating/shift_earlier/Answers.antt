use Rattle.std.proofs.Common.{ℕ, ◌+◌, ◌≤◌, subst}
use Rattle.sporc_xform.proofs.Common.{base_len, kept_first, kept_last, IsMoved}
use Rattle.sporc_xform.proofs.Apart.{earlier_first_moves, earlier_keeps_more, earlier_last_meets, earlier_moves, not_apart}
use Rattle.sporc_xform.proofs.restating.shift_earlier.Goals as goal

pub returns-then-is_apart-clause-value : goal.returns-then-is_apart-clause-value
returns-then-is_apart-clause-value c =
    let n = c.in_ok-moved.field-0 in
    let P : ℕ → Type 0 = λ k. IsMoved k n c.args.q.now in
    earlier_moves c.args.p.now c.args.q.now c.requires.base c.requires.limit c.in_ok-moved.field-0 (c.is_apart.ensures.value.0 c.if-is_apart.true) (subst P c.kept_first.ensures.value c.in_ok-moved.ensures.value)

pub returns-in_err-moved-clause-none : goal.returns-in_err-moved-clause-none
returns-in_err-moved-clause-none c =
    earlier_first_moves c.args.p.now c.args.q.now c.requires.base c.from_residual.result c.kept_first.result (c.is_apart.ensures.value.0 c.if-is_apart.true) c.kept_first.ensures.value c.in_err-moved.ensures.none

pub returns-then-is_before-clause-value : goal.returns-then-is_before-clause-value
returns-then-is_before-clause-value c =
    let n = c.in_ok-moved-2.field-0 in
    let P : ℕ → Type 0 = λ k. IsMoved k n c.args.q.now in
    earlier_keeps_more c.args.p.now c.args.q.now c.requires.base c.requires.limit c.in_ok-moved-2.field-0 (c.is_before.ensures.value.0 c.if-is_before.true) (subst P c.kept_last.ensures.value c.in_ok-moved-2.ensures.value)

pub returns-in_err-moved-2-clause-none : goal.returns-in_err-moved-2-clause-none
returns-in_err-moved-2-clause-none c =
    let met : kept_last c.args.q.now + kept_first c.args.p.now ≤ base_len c.args.q.now = not_apart c.is_apart.result (base_len c.args.q.now) (kept_last c.args.q.now + kept_first c.args.p.now) c.is_apart.ensures.value c.if-is_apart.false in
    earlier_last_meets c.args.p.now c.args.q.now c.requires.base c.from_residual-in_err-moved-2.result c.kept_last.result met c.kept_last.ensures.value c.in_err-moved-2.ensures.none
