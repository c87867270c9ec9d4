use Rattle.std.proofs.Common.{◌∙◌}
use Rattle.sporc_entry.proofs.Common.{err_from_is_err_and}
use Rattle.sporc_entry.proofs.Skimmed.{body_ends, body_fails}
use Rattle.sporc_entry.proofs.skimming.skim_body.Goals as goal

pub returns-in_err-skim_change : goal.returns-in_err-skim_change
returns-in_err-skim_change c =
    let p = err_from_is_err_and c.from_residual.result c.from_residual.ensures.1 in
    rw (p.1, p.2) (body_fails c.args.header.now c.args.body.now c.within-cursor.result c.if-header-eq-EDIT.false c.within-cursor.ensures.rest (c.within-cursor.ensures.at ∙ c.body_at.ensures.value) c.in_err-skim_change.field-0.0.0 c.in_err-skim_change.ensures)

pub returns : goal.returns
returns c = rw (body_ends c.args.header.now c.args.body.now c.within-cursor.result c.if-header-eq-EDIT.false c.within-cursor.ensures.rest (c.within-cursor.ensures.at ∙ c.body_at.ensures.value) c.skim_change.new.cursor c.in_ok-skim_change.ensures) c.ended.ensures.value
