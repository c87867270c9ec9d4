use Rattle.std.proofs.Common.{sym, ◌∙◌, arith}
use Rattle.sporc_evidence.proofs.Differences.{agree_so_far, differs, no_difference, parts_here}
use Rattle.sporc_evidence.proofs.judging.find_difference.Goals as goal

pub returns-then-not-is_same : goal.returns-then-not-is_same
returns-then-not-is_same c =
    let part = parts_here c.args.a.now c.args.b.now c.loop-at.at (omega arith) (omega arith) c.loop-at.invariant (sym c.is_same.ensures.value ∙ c.if-not-is_same.true) in
    record { value = sym (differs c.args.a.now c.args.b.now _ part); some = part }

pub loop-at-preserved : goal.loop-at-preserved
loop-at-preserved c = agree_so_far c.args.a.now c.args.b.now c.loop-at.at (omega arith) (omega arith) c.loop-at.invariant (sym c.is_same.ensures.value ∙ c.if-not-is_same.false)

pub returns-clause-value : goal.returns-clause-value
returns-clause-value c = sym (no_difference c.args.a.now c.args.b.now (λ i in_a in_b. c.loop-at.invariant i (omega arith)))
