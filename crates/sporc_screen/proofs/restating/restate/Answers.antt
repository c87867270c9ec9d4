use Rattle.std.proofs.Common.{◌≡◌, ◌∙◌, ap, arith}
use Rattle.sporc_screen.proofs.Common.{len_before, seen_len}
use Rattle.sporc_screen.proofs.EditLemmas.{may_restate, passes, passes_limit}
use Rattle.sporc_screen.proofs.restating.restate.Goals as goal

pub both-requires-clause-base : goal.both-requires-clause-base
both-requires-clause-base c =
    let may = may_restate c.args.draft.now c.args.lines.now c.args.edit.now c.len_before-len.result c.out_len.result c.is_in_bounds.result c.requires c.out_len.ensures.value c.len_before-len.ensures.value c.is_in_bounds.ensures.value c.if-not-is_in_bounds.false (omega arith) in
    let len_is : c.len_before-len.result ≡ seen_len c.args.draft.now c.args.lines.now = c.len_before-len.ensures.value ∙ ap (len_before c.args.lines.now) c.out_len.ensures.value in
    rw (c.in_ok-shown.ensures.ok, c.in_ok-edited.ensures.ok, c.out_len-3.ensures.value, len_is) (passes c.args.draft.now c.args.lines.now c.args.edit.now may.lead may.within).base

pub both-requires-clause-limit : goal.both-requires-clause-limit
both-requires-clause-limit c =
    let may = may_restate c.args.draft.now c.args.lines.now c.args.edit.now c.len_before-len.result c.out_len.result c.is_in_bounds.result c.requires c.out_len.ensures.value c.len_before-len.ensures.value c.is_in_bounds.ensures.value c.if-not-is_in_bounds.false (omega arith) in
    let len_is : c.len_before-len.result ≡ seen_len c.args.draft.now c.args.lines.now = c.len_before-len.ensures.value ∙ ap (len_before c.args.lines.now) c.out_len.ensures.value in
    rw (c.in_ok-shown.ensures.ok, c.in_ok-edited.ensures.ok, c.out_len-3.ensures.value, len_is) (passes_limit c.args.draft.now c.args.lines.now c.args.edit.now may)

pub compose-requires : goal.compose-requires
compose-requires c =
    let may = may_restate c.args.draft.now c.args.lines.now c.args.edit.now c.len_before-len.result c.out_len.result c.is_in_bounds.result c.requires c.out_len.ensures.value c.len_before-len.ensures.value c.is_in_bounds.ensures.value c.if-not-is_in_bounds.false (omega arith) in
    let len_is : c.len_before-len.result ≡ seen_len c.args.draft.now c.args.lines.now = c.len_before-len.ensures.value ∙ ap (len_before c.args.lines.now) c.out_len.ensures.value in
    rw (c.in_ok-line.ensures.later, c.in_ok-shown.ensures.ok, c.in_ok-edited.ensures.ok, c.out_len-3.ensures.value, len_is) (passes c.args.draft.now c.args.lines.now c.args.edit.now may.lead may.within).follows
