use Rattle.std.proofs.Common.{Err, refl, ap, ◌∙◌}
use Rattle.sporc_commands.proofs.Common.{err_from_is_err_and, names_of_document, IsVerdictLine, both_chains}
use Rattle.sporc_commands.proofs.Compared.{compares, verdict_says}
use Rattle.sporc_commands.proofs.Lines.{line_printed, no_memory, not_found}
use Rattle.sporc_commands.proofs.comparing.compare.Goals as goal

pub returns-in_err-chains-clause-outcome : goal.returns-in_err-chains-clause-outcome
returns-in_err-chains-clause-outcome g c =
    let failed = err_from_is_err_and c.from_residual.result c.from_residual.ensures.1 in
    let (content, are, tells) = c.in_err-chains.ensures.found in
    compares c.args.asked.now.first c.args.asked.now.second _ _ (c.of_document-names.ensures.value ∙ ap names_of_document c.as_str.ensures.value) _ _ _ (record {
      content = content;
      are = are;
      reads = c.in_err-chains.ensures.reads;
      writes = not_found (IsVerdictLine c.args.asked.now.first c.args.asked.now.second) _ _ _ both_chains _ _ (failed.1 ∙ ap Err failed.2) tells (record { written = refl; faults = refl });
    })

pub returns-in_err-line-clause-outcome : goal.returns-in_err-line-clause-outcome
returns-in_err-line-clause-outcome g c =
    let failed = err_from_is_err_and c.from_residual-in_err-line.result c.from_residual-in_err-line.ensures.1 in
    let (content, are, tells) = c.in_ok-chains.ensures.found in
    compares c.args.asked.now.first c.args.asked.now.second _ _ (c.of_document-names.ensures.value ∙ ap names_of_document c.as_str.ensures.value) _ _ _ (record {
      content = content;
      are = are;
      reads = c.in_ok-chains.ensures.reads;
      writes = no_memory (IsVerdictLine c.args.asked.now.first c.args.asked.now.second) _ _ _ _ (failed.1 ∙ ap Err failed.2) (record { written = refl; faults = refl });
    })

pub returns-clause-outcome : goal.returns-clause-outcome
returns-clause-outcome g c =
    let (content, are, tells) = c.in_ok-chains.ensures.found in
    compares c.args.asked.now.first c.args.asked.now.second _ _ (c.of_document-names.ensures.value ∙ ap names_of_document c.as_str.ensures.value) _ _ _ (record {
      content = content;
      are = are;
      reads = c.in_ok-chains.ensures.reads;
      writes = line_printed (IsVerdictLine c.args.asked.now.first c.args.asked.now.second) _ _ _ (both_chains c.in_ok-chains.chains) c.as_str-2.result.now c.print.result tells (verdict_says c.args.asked.now.first c.args.asked.now.second _ _ _ _ _ _ c.as_slice.ensures.value c.as_slice-2.ensures.value c.as_str-2.ensures.value c.in_ok-line.ensures) c.print.ensures.prints;
    })
