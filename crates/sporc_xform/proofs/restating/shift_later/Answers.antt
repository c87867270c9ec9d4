use Rattle.std.proofs.Common.{ℕ, ◌+◌, ◌≤◌, subst, sym}
use Rattle.sporc_xform.proofs.Common.{base_len, kept_first, kept_last, IsMoved}
use Rattle.sporc_xform.proofs.Apart.{later_first_meets, later_keeps_more, later_last_moves, later_moves, not_apart}
use Rattle.sporc_xform.proofs.restating.shift_later.Goals as goal

pub returns-then-is_apart-clause-value : goal.returns-then-is_apart-clause-value
returns-then-is_apart-clause-value c =
    let n = c.in_ok-moved.field-0 in
    let P : ℕ → Type 0 = λ k. IsMoved k n c.args.p.now in
    later_keeps_more c.args.p.now c.args.q.now (sym c.requires.base) c.requires.limit c.in_ok-moved.field-0 (c.is_apart.ensures.value.0 c.if-is_apart.true) (subst P c.kept_last.ensures.value c.in_ok-moved.ensures.value)

pub returns-in_err-moved-clause-none : goal.returns-in_err-moved-clause-none
returns-in_err-moved-clause-none c =
    later_last_moves c.args.p.now c.args.q.now (sym c.requires.base) c.from_residual.result c.kept_last.result (c.is_apart.ensures.value.0 c.if-is_apart.true) c.kept_last.ensures.value c.in_err-moved.ensures.none

pub returns-then-is_before-clause-value : goal.returns-then-is_before-clause-value
returns-then-is_before-clause-value c =
    let n = c.in_ok-moved-2.field-0 in
    let P : ℕ → Type 0 = λ k. IsMoved k n c.args.p.now in
    later_moves c.args.p.now c.args.q.now (sym c.requires.base) c.requires.limit c.in_ok-moved-2.field-0 (c.is_before.ensures.value.0 c.if-is_before.true) (subst P c.kept_first.ensures.value c.in_ok-moved-2.ensures.value)

pub returns-in_err-moved-2-clause-none : goal.returns-in_err-moved-2-clause-none
returns-in_err-moved-2-clause-none c =
    let met : kept_last c.args.q.now + kept_first c.args.p.now ≤ base_len c.args.q.now = not_apart c.is_apart.result (base_len c.args.q.now) (kept_last c.args.q.now + kept_first c.args.p.now) c.is_apart.ensures.value c.if-is_apart.false in
    later_first_meets c.args.p.now c.args.q.now (sym c.requires.base) c.from_residual-in_err-moved-2.result c.kept_first.result met c.kept_first.ensures.value c.in_err-moved-2.ensures.none
