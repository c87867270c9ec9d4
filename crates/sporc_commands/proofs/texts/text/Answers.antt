use Rattle.std.proofs.Common.{Global, Err, string_bytes, refl, ap, ◌∙◌}
use Rattle.sporc_commands.proofs.Common.{err_from_is_err_and, names_of_document, IsJust, text_at}
use Rattle.sporc_commands.proofs.Lines.{examined_for_none, examined_to_print, none_examined}
use Rattle.sporc_commands.proofs.texts.text.Goals as goal

pub returns-in_err-line-clause-outcome : goal.returns-in_err-line-clause-outcome
returns-in_err-line-clause-outcome g c =
    let failed = err_from_is_err_and c.from_residual.result c.from_residual.ensures.1 in
    none_examined IsJust (text_at c.args.asked.now.at) _ _ (c.of_document-names.ensures.value ∙ ap names_of_document c.as_str.ensures.value) _ _ _ _ _ (failed.1 ∙ ap Err failed.2) c.in_err-line.ensures.found
    c.in_err-line.ensures.reads (record { written = refl; faults = refl })

pub returns-in_err-text-clause-outcome : goal.returns-in_err-text-clause-outcome
returns-in_err-text-clause-outcome g c =
    let failed = err_from_is_err_and c.from_residual-in_err-text.result c.from_residual-in_err-text.ensures.1 in
    examined_for_none IsJust (text_at c.args.asked.now.at) _ _ (c.of_document-names.ensures.value ∙ ap names_of_document c.as_str.ensures.value) _ _ _ c.in_ok-line.line c.in_ok-line.ensures.found
    c.in_ok-line.ensures.reads (string_bytes {Z = Global}) _ _ (failed.1 ∙ ap Err failed.2) c.in_err-text.ensures.value (record { written = refl; faults = refl })

pub returns-clause-outcome : goal.returns-clause-outcome
returns-clause-outcome g c =
    examined_to_print IsJust (text_at c.args.asked.now.at) _ _ (c.of_document-names.ensures.value ∙ ap names_of_document c.as_str.ensures.value) _ _ _ c.in_ok-line.line c.in_ok-line.ensures.found
    c.in_ok-line.ensures.reads
    _ c.as_str-2.result.now c.print.result c.in_ok-text.ensures.value c.as_str-2.ensures.value c.print.ensures.prints
