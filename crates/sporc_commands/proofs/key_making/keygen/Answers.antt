use Rattle.std.proofs.Common.{ap, subst, ◌∙◌}
use Rattle.sporc_commands.proofs.Common.{use_of, names_of_document, StoresKey}
use Rattle.sporc_commands.proofs.Printed.{new_key_printed}
use Rattle.sporc_commands.proofs.key_making.keygen.Goals as goal

pub returns-clause-outcome : goal.returns-clause-outcome
returns-clause-outcome g c =
    let files = use_of g.F.Folder.told c.args.files.now c.write_files.new.files in
    new_key_printed c.args.asked.now files _ _ c.in_ok-key.key c.as_str-2.result.now c.print.result c.in_ok-key.ensures.ok
    (subst (λ names. StoresKey names c.in_ok-key.key files.before.files files.after.files) (c.of_document-names.ensures.value ∙ ap names_of_document c.as_str.ensures.value) c.in_ok-write_files.ensures.ok)
    (c.as_str-2.ensures.value ∙ c.in_ok-line.ensures) c.print.ensures.prints
