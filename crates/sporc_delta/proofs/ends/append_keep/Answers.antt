use Rattle.std.proofs.Common.{◌<◌, length, arith, sym, ◌∙◌, ap}
use Rattle.sporc_delta.proofs.Common.{kept_at_end}
use Rattle.sporc_delta.proofs.Appended.{kept_fits, kept_grown, keep_pushed}
use Rattle.sporc_delta.proofs.ends.append_keep.Goals as goal

pub overflow_add-kept : goal.overflow_add-kept
overflow_add-kept c =
    let some : 0 < c.kept_last-kept.result = omega arith in
    omega (arith, kept_fits c.args.parts.now.items c.kept_last-kept.result (c.kept_last-kept.ensures.value ∙ ap kept_at_end c.as_slice.ensures.value) some)

pub returns-in_ok-push-clause-ok : goal.returns-in_ok-push-clause-ok
returns-in_ok-push-clause-ok c =
    keep_pushed c.args.parts.now.items c.push.new.self.items c.kept_last-kept.result c.args.count (c.kept_last-kept.ensures.value ∙ ap kept_at_end c.as_slice.ensures.value) c.if-kept-eq0.true c.requires.positive c.in_ok-push.ensures.items

pub returns-else-kept-eq0-clause-ok : goal.returns-else-kept-eq0-clause-ok
returns-else-kept-eq0-clause-ok c =
    let some : 0 < c.kept_last-kept.result = omega arith in
    kept_grown c.args.parts.now.items c.len-last.result c.kept_last-kept.result c.args.count (c.len-last.ensures ∙ sym c.as_slice.ensures.len ∙ ap length c.as_slice.ensures.value)
    (c.kept_last-kept.ensures.value ∙ ap kept_at_end c.as_slice.ensures.value) some
