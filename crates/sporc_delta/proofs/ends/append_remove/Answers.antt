use Rattle.std.proofs.Common.{◌<◌, length, arith, sym, ◌∙◌, ap}
use Rattle.sporc_delta.proofs.Common.{removed_at_end}
use Rattle.sporc_delta.proofs.Appended.{removed_fits, removed_grown, remove_pushed}
use Rattle.sporc_delta.proofs.ends.append_remove.Goals as goal

pub overflow_add-removed : goal.overflow_add-removed
overflow_add-removed c =
    let some : 0 < c.removed_last-removed.result = omega arith in
    omega (arith, removed_fits c.args.parts.now.items c.removed_last-removed.result (c.removed_last-removed.ensures.value ∙ ap removed_at_end c.as_slice.ensures.value) some)

pub returns-in_ok-push-clause-ok : goal.returns-in_ok-push-clause-ok
returns-in_ok-push-clause-ok c =
    remove_pushed c.args.parts.now.items c.push.new.self.items c.removed_last-removed.result c.args.count (c.removed_last-removed.ensures.value ∙ ap removed_at_end c.as_slice.ensures.value) c.if-removed-eq0.true c.requires.positive c.in_ok-push.ensures.items

pub returns-else-removed-eq0-clause-ok : goal.returns-else-removed-eq0-clause-ok
returns-else-removed-eq0-clause-ok c =
    let some : 0 < c.removed_last-removed.result = omega arith in
    removed_grown c.args.parts.now.items c.len-last.result c.removed_last-removed.result c.args.count (c.len-last.ensures ∙ sym c.as_slice.ensures.len ∙ ap length c.as_slice.ensures.value)
    (c.removed_last-removed.ensures.value ∙ ap removed_at_end c.as_slice.ensures.value) some
