use Rattle.std.proofs.Common.{Err, ap, refl, ◌∙◌}
use Rattle.sporc_hosting.proofs.Common.{err_from_is_err_and}
use Rattle.sporc_hosting.proofs.Changed.{more_made, none_made, tails_first, tails_more, tails_same}
use Rattle.sporc_hosting.proofs.OpenDocuments.{first_fails, none_opened, others_opened}
use Rattle.sporc_hosting.proofs.Rooms.{first_asked, none_asked, numbers_left, others_asked, room_first, room_left}
use Rattle.sporc_hosting.proofs.loading.+open_documents.Goals as goal

pub returns-in_default-clause-opens : goal.returns-in_default-clause-opens
returns-in_default-clause-opens g t c = λ first begun opens.
    none_opened g.F.Appended.AppendFile.told (g.F.Folder.told c.args.files.now) c.args.names.now c.args.number _ first begun (g.F.Folder.told c.args.files.now) _ _
    c.in_default.ensures.cases opens

pub returns-in_default-clause-made : goal.returns-in_default-clause-made
returns-in_default-clause-made g t c = none_made c.args.names.now _ c.in_default.ensures.cases

pub returns-in_default-clause-changes : goal.returns-in_default-clause-changes
returns-in_default-clause-changes g t c = tails_same c.args.names.now _ _ refl

pub returns-in_default-clause-may_ask : goal.returns-in_default-clause-may_ask
returns-in_default-clause-may_ask g t c = none_asked c.args.names.now _

pub open_document-requires-clause-limit : goal.open_document-requires-clause-limit
open_document-requires-clause-limit g t c κs within = room_first c.args.names.now c.in-Some.name.now c.in-Some.others.now c.in-Some.ensures.cases.0 _ _ c.requires.limit

pub open_documents-requires-clause-limit : goal.open_documents-requires-clause-limit
open_documents-requires-clause-limit g t c κs within =
    room_left c.args.names.now c.in-Some.name.now c.in-Some.others.now c.in-Some.ensures.cases.0 _ _ _ c.in_ok-open_document.ensures.one c.requires.limit

pub open_documents-requires-clause-numbers_limit : goal.open_documents-requires-clause-numbers_limit
open_documents-requires-clause-numbers_limit g t c κs within =
    numbers_left c.args.names.now c.in-Some.name.now c.in-Some.others.now c.in-Some.ensures.cases.0 _ _ c.requires.numbers_limit

pub returns-in_err-open_document-clause-opens : goal.returns-in_err-open_document-clause-opens
returns-in_err-open_document-clause-opens g t c = λ first begun opens.
    let failed = err_from_is_err_and c.from_residual.result c.from_residual.ensures.1 in
    first_fails g.F.Appended.AppendFile.told (g.F.Folder.told c.args.files.now) c.args.names.now c.args.number _ first begun (g.F.Folder.told c.open_document.new.files) _ _ _
    c.in-Some.name.now c.in-Some.others.now _ _ c.in-Some.ensures.cases.0 (failed.1 ∙ ap Err failed.2) (c.in_err-open_document.ensures.opens first begun opens)

pub returns-in_err-open_document-clause-changes : goal.returns-in_err-open_document-clause-changes
returns-in_err-open_document-clause-changes g t c =
    tails_first c.args.names.now c.in-Some.name.now c.in-Some.others.now _ _ c.in-Some.ensures.cases.0 c.in_err-open_document.ensures.changes

pub returns-in_err-open_document-clause-may_ask : goal.returns-in_err-open_document-clause-may_ask
returns-in_err-open_document-clause-may_ask g t c =
    first_asked c.args.names.now c.in-Some.name.now c.in-Some.others.now c.in-Some.ensures.cases.0 _ _ c.in_err-open_document.ensures.may_ask

pub returns-clause-opens : goal.returns-clause-opens
returns-clause-opens g t c = λ first begun opens.
    others_opened g.F.Appended.AppendFile.told (g.F.Folder.told c.args.files.now) c.args.names.now c.args.number _ first begun
    (g.F.Folder.told c.open_document.new.files) (g.F.Folder.told c.open_documents.new.files) _ _ _ _ _ _ c.in-Some.name.now c.in-Some.others.now c.open_documents.result c.in-Some.ensures.cases.0 c.in_ok-open_document.ensures.made
    c.in_ok-open_document.ensures.kept (c.in_ok-open_document.ensures.opens first begun opens) c.open_documents.ensures.opens

pub returns-clause-made : goal.returns-clause-made
returns-clause-made g t c =
    more_made c.args.names.now c.in-Some.name.now c.in-Some.others.now _ _ _ c.open_documents.result c.in-Some.ensures.cases.0 c.in_ok-open_document.ensures.made
    c.open_documents.ensures.made

pub returns-clause-changes : goal.returns-clause-changes
returns-clause-changes g t c =
    tails_more c.args.names.now c.in-Some.name.now c.in-Some.others.now _ _ _ c.in-Some.ensures.cases.0 c.in_ok-open_document.ensures.changes c.open_documents.ensures.changes

pub returns-clause-may_ask : goal.returns-clause-may_ask
returns-clause-may_ask g t c =
    others_asked c.args.names.now c.in-Some.name.now c.in-Some.others.now c.in-Some.ensures.cases.0 _ _ _ c.in_ok-open_document.ensures.may_ask c.open_documents.ensures.may_ask
