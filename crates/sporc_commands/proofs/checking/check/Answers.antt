use Rattle.std.proofs.Common.{ℕ, Err, refl, ap, ◌∙◌}
use Rattle.sporc_commands.proofs.Common.{err_from_is_err_and, names_of_document, ◌++◌, codes, length, Ok, CheckedLine, IsCheckedLine}
use Rattle.std.specs.Fmt.{decimal}
use Rattle.sporc_commands.proofs.Lines.{examined_in_vain, examined_to_print, none_examined}
use Rattle.sporc_commands.proofs.checking.check.Goals as goal

pub returns-in_err-line-clause-outcome : goal.returns-in_err-line-clause-outcome
returns-in_err-line-clause-outcome g c =
    let failed = err_from_is_err_and c.from_residual.result c.from_residual.ensures.1 in
    none_examined IsCheckedLine (λ (line : CheckedLine). Ok (length line.entries)) _ _ (c.of_document-names.ensures.value ∙ ap names_of_document c.as_str.ensures.value) _ _ _ _ _ (failed.1 ∙ ap Err failed.2) c.in_err-line.ensures.found
    c.in_err-line.ensures.reads (record { written = refl; faults = refl })

pub returns-in_err-checked-clause-outcome : goal.returns-in_err-checked-clause-outcome
returns-in_err-checked-clause-outcome g c =
    let failed = err_from_is_err_and c.from_residual-in_err-checked.result c.from_residual-in_err-checked.ensures.1 in
    examined_in_vain IsCheckedLine (λ (line : CheckedLine). Ok (length line.entries)) _ _ (c.of_document-names.ensures.value ∙ ap names_of_document c.as_str.ensures.value) _ _ _ c.in_ok-line.line c.in_ok-line.ensures.found
    c.in_ok-line.ensures.reads _ (failed.1 ∙ ap Err failed.2) (record { written = refl; faults = refl })

pub returns-clause-outcome : goal.returns-clause-outcome
returns-clause-outcome g c =
    examined_to_print IsCheckedLine (λ (line : CheckedLine). Ok (length line.entries)) _ _ (c.of_document-names.ensures.value ∙ ap names_of_document c.as_str.ensures.value) _ _ _ c.in_ok-line.line c.in_ok-line.ensures.found
    c.in_ok-line.ensures.reads
    _ c.as_str-2.result.now c.print.result refl (c.as_str-2.ensures.value ∙ c.in_ok-checked.ensures ∙ ap (λ (n : ℕ). codes "checked " ++ (decimal n ++ codes "\n")) c.len.ensures.value) c.print.ensures.prints
