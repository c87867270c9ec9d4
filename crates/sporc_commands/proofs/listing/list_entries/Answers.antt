use Rattle.std.proofs.Common.{Err, refl, ap, ◌∙◌}
use Rattle.sporc_commands.proofs.Common.{err_from_is_err_and, names_of_document, IsJust, lines_from}
use Rattle.sporc_commands.proofs.Lines.{examined_in_vain, examined_to_print, none_examined}
use Rattle.sporc_commands.proofs.listing.list_entries.Goals as goal

pub returns-in_err-line-clause-outcome : goal.returns-in_err-line-clause-outcome
returns-in_err-line-clause-outcome g c =
    let failed = err_from_is_err_and c.from_residual.result c.from_residual.ensures.1 in
    none_examined IsJust (lines_from c.args.asked.now.from) _ _ (c.of_document-names.ensures.value ∙ ap names_of_document c.as_str.ensures.value) _ _ _ _ _ (failed.1 ∙ ap Err failed.2) c.in_err-line.ensures.found
    c.in_err-line.ensures.reads (record { written = refl; faults = refl })

pub returns-in_err-lines-clause-outcome : goal.returns-in_err-lines-clause-outcome
returns-in_err-lines-clause-outcome g c =
    let failed = err_from_is_err_and c.from_residual-in_err-lines.result c.from_residual-in_err-lines.ensures.1 in
    examined_in_vain IsJust (lines_from c.args.asked.now.from) _ _ (c.of_document-names.ensures.value ∙ ap names_of_document c.as_str.ensures.value) _ _ _ c.in_ok-line.line c.in_ok-line.ensures.found
    c.in_ok-line.ensures.reads _ (failed.1 ∙ ap Err failed.2) (record { written = refl; faults = refl })

pub returns-clause-outcome : goal.returns-clause-outcome
returns-clause-outcome g c =
    examined_to_print IsJust (lines_from c.args.asked.now.from) _ _ (c.of_document-names.ensures.value ∙ ap names_of_document c.as_str.ensures.value) _ _ _ c.in_ok-line.line c.in_ok-line.ensures.found
    c.in_ok-line.ensures.reads
    _ c.as_str-2.result.now c.print.result refl (c.as_str-2.ensures.value ∙ c.in_ok-lines.ensures) c.print.ensures.prints
