use Rattle.std.proofs.Common.{ap, ◌∙◌}
use Rattle.sporc_commands.proofs.Common.{err_from_is_err_and, use_of, names_of_document}
use Rattle.sporc_commands.proofs.Asking.{found_asks_all, found_asks_keys}
use Rattle.sporc_commands.proofs.MayFound.{can_found}
use Rattle.sporc_commands.proofs.StoreFaults.{write_fails}
use Rattle.sporc_commands.proofs.founding.found.Goals as goal

pub make_founding-requires : goal.make_founding-requires
make_founding-requires g c =
    rw c.as_slice-2.ensures.value (can_found (g.F.Folder.told c.args.files.now).files c.of_document-names.result c.args.asked.now c.in_ok-named.named.items c.requires (rw c.as_slice.ensures.value at c.in_ok-named.ensures.ok))

pub returns-in_err-write_founding-clause-outcome : goal.returns-in_err-write_founding-clause-outcome
returns-in_err-write_founding-clause-outcome g c =
    let p = err_from_is_err_and c.from_residual-in_err-write_founding.result c.from_residual-in_err-write_founding.ensures.1 in
    write_fails c.from_residual-in_err-write_founding.result c.args.asked.now
    (use_of g.F.Folder.told c.args.files.now c.write_founding.new.files)
    (use_of g.C.Chance.told c.args.chance.now c.make_founding.new.chance) _ _ p.1 p.2 c.of_document-names.result c.as_slice.result.now (g.F.Folder.told c.read_founders.new.files) c.in_ok-named.named.items c.in_ok-founding.founding
    (c.of_document-names.ensures.value ∙ ap names_of_document c.as_str.ensures.value) c.as_slice.ensures.value c.read_founders.ensures.reads.files c.read_founders.ensures.reads.kept
    c.in_ok-named.ensures.ok (rw c.as_slice-2.ensures.value at c.in_ok-founding.ensures.ok) c.in_err-write_founding.ensures.err

pub returns-in_err-named-clause-may_ask : goal.returns-in_err-named-clause-may_ask
returns-in_err-named-clause-may_ask g c =
    found_asks_keys c.of_document-names.result (names_of_document c.args.asked.now.name) c.as_slice.result.now c.args.asked.now.participants _ (c.of_document-names.ensures.value ∙ ap names_of_document c.as_str.ensures.value) c.as_slice.ensures.value _ c.read_founders.ensures.reads.may_ask

pub returns-in_err-founding-clause-may_ask : goal.returns-in_err-founding-clause-may_ask
returns-in_err-founding-clause-may_ask g c =
    found_asks_keys c.of_document-names.result (names_of_document c.args.asked.now.name) c.as_slice.result.now c.args.asked.now.participants _ (c.of_document-names.ensures.value ∙ ap names_of_document c.as_str.ensures.value) c.as_slice.ensures.value _ c.read_founders.ensures.reads.may_ask

pub returns-in_err-write_founding-clause-may_ask : goal.returns-in_err-write_founding-clause-may_ask
returns-in_err-write_founding-clause-may_ask g c =
    found_asks_all c.of_document-names.result (names_of_document c.args.asked.now.name) c.as_slice.result.now c.args.asked.now.participants _ (c.of_document-names.ensures.value ∙ ap names_of_document c.as_str.ensures.value) c.as_slice.ensures.value
    _ c.in_ok-named.named.items _ _ c.in_ok-founding.founding _ _ c.in_ok-named.ensures.ok (rw c.as_slice-2.ensures.value at c.in_ok-founding.ensures.ok) c.read_founders.ensures.reads.may_ask c.write_founding.ensures.may_ask

pub returns-clause-may_ask : goal.returns-clause-may_ask
returns-clause-may_ask g c =
    found_asks_all c.of_document-names.result (names_of_document c.args.asked.now.name) c.as_slice.result.now c.args.asked.now.participants _ (c.of_document-names.ensures.value ∙ ap names_of_document c.as_str.ensures.value) c.as_slice.ensures.value
    _ c.in_ok-named.named.items _ _ c.in_ok-founding.founding _ _ c.in_ok-named.ensures.ok (rw c.as_slice-2.ensures.value at c.in_ok-founding.ensures.ok) c.read_founders.ensures.reads.may_ask c.write_founding.ensures.may_ask
