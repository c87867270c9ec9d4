use Rattle.std.proofs.Common.{List, [], ◌∷◌, Err, ap, refl, subst, ◌∙◌}
use Rattle.sporc_hosting.proofs.Common.{err_from_is_err_and, string_bytes, OrderModel, FileNames, file_name, names_of_document, AnswersUnlessOutside, added, opened_to, use_of, OpenedOrder}
use Rattle.sporc_files.specs.declared.file.File.TheVariants as files
use Rattle.sporc_hosting.proofs.Changed.{added_changes, added_made, failed_changes, tails_same}
use Rattle.sporc_hosting.proofs.OpenDocuments.{added_open, document_adds, document_fails, none_tried, still_open}
use Rattle.sporc_hosting.proofs.Rooms.{one_added, own_asked}
use Rattle.sporc_hosting.proofs.loading.open_document.Goals as goal

pub returns-in_err-make_room-clause-opens : goal.returns-in_err-make_room-clause-opens
returns-in_err-make_room-clause-opens g c = λ first begun opens.
    let failed = err_from_is_err_and c.from_residual.result c.from_residual.ensures.1 in
    none_tried g.F.Appended.AppendFile.told (g.F.Folder.told c.args.files.now) (g.F.Folder.told c.args.files.now) c.args.name.now c.args.number _ _ _ _ first begun _
    (failed.1 ∙ ap Err failed.2)
    (still_open g.F.Appended.AppendFile.told first begun _ _ _ _ _ _ c.make_room.ensures.docs c.make_room.ensures.tails c.make_room.ensures.logs opens)

pub returns-in_err-make_room-clause-changes : goal.returns-in_err-make_room-clause-changes
returns-in_err-make_room-clause-changes g c = tails_same (c.args.name.now ∷ []) _ _ refl

pub returns-in-Ok-clause-opens : goal.returns-in-Ok-clause-opens
returns-in-Ok-clause-opens g c = λ first begun opens.
    let same = c.of_document-names.ensures.value ∙ ap names_of_document c.as_str.ensures.value in
    document_adds g.F.Appended.AppendFile.told (g.F.Folder.told c.args.files.now) (g.F.Folder.told c.add.new.files) c.args.name.now c.args.number c.args.held.now.docs c.add.new.held.docs c.add.new.held.tails.items c.add.new.held.logs.items first begun
    (λ (it : OpenedOrder g.row.F-Appended.Denot). it.kept.order) (λ (it : OpenedOrder g.row.F-Appended.Denot). it.logged) c.of_document-names.result c.orders.result.now same (c.orders.ensures.value ∙ c.make_room.ensures.docs)
    (g.F.Folder.told c.open_unless_held.new.files) c.in-Ok.opened c.add.result c.in-Ok.ensures.found
    (subst (λ (os : List OrderModel). AnswersUnlessOutside (λ (docs : List OrderModel). docs) ⊥ (opened_to c.add.result c.add.new.held.docs) (added c.args.number os c.in-Ok.opened.kept.order)) c.make_room.ensures.docs
    c.add.ensures.value)
    (added_open g.F.Appended.AppendFile.told c.add.result c.make_room.new.held.docs c.add.new.held.docs c.make_room.new.held.tails.items
    c.add.new.held.tails.items c.make_room.new.held.logs.items c.add.new.held.logs.items c.in-Ok.opened.kept.order c.in-Ok.opened.kept.tail
    (record { name = string_bytes c.in-Ok.opened.name; logged = c.in-Ok.opened.logged }) c.args.name.now first begun c.add.ensures.docs c.add.ensures.tails c.add.ensures.logs
    c.add.ensures.unchanged
    (still_open g.F.Appended.AppendFile.told first begun _ _ _ _ _ _ c.make_room.ensures.docs c.make_room.ensures.tails c.make_room.ensures.logs
    opens)
    c.in-Ok.ensures.tail (c.in-Ok.ensures.name ∙ ap (λ (n : FileNames). file_name n files.Tail) same))

pub returns-in-Ok-clause-one : goal.returns-in-Ok-clause-one
returns-in-Ok-clause-one g c = one_added c.add.result c.args.held.now.docs c.make_room.new.held.docs c.add.new.held.docs _ c.make_room.ensures.docs c.add.ensures.docs

pub returns-in-Ok-clause-made : goal.returns-in-Ok-clause-made
returns-in-Ok-clause-made g c =
    added_made c.args.name.now c.of_document-names.result (c.of_document-names.ensures.value ∙ ap names_of_document c.as_str.ensures.value) _ _ _ c.in-Ok.ensures.made c.add.result
    c.add.ensures.files

pub returns-in-Ok-clause-changes : goal.returns-in-Ok-clause-changes
returns-in-Ok-clause-changes g c =
    added_changes c.args.name.now c.of_document-names.result (c.of_document-names.ensures.value ∙ ap names_of_document c.as_str.ensures.value) _ _ _ c.in-Ok.ensures.made c.add.result
    c.add.ensures.files (string_bytes c.in-Ok.opened.name)
    (use_of g.F.Folder.told c.open_unless_held.new.files c.add.new.files) c.in-Ok.ensures.name refl refl c.add.ensures.back

pub returns-in-Ok-clause-may_ask : goal.returns-in-Ok-clause-may_ask
returns-in-Ok-clause-may_ask g c =
    own_asked c.args.name.now c.of_document-names.result _ _ _ (c.of_document-names.ensures.value ∙ ap names_of_document c.as_str.ensures.value) c.add.ensures.asked c.in-Ok.ensures.may_ask

pub returns-in-Err-clause-opens : goal.returns-in-Err-clause-opens
returns-in-Err-clause-opens g c = λ first begun opens.
    document_fails g.F.Appended.AppendFile.told (g.F.Folder.told c.args.files.now) (g.F.Folder.told c.open_unless_held.new.files) c.args.name.now c.args.number c.args.held.now.docs c.make_room.new.held.docs c.make_room.new.held.tails.items
    c.make_room.new.held.logs.items first begun (λ (it : OpenedOrder g.row.F-Appended.Denot). it.kept.order) (λ (it : OpenedOrder g.row.F-Appended.Denot). it.logged) c.of_document-names.result c.orders.result.now
    (c.of_document-names.ensures.value ∙ ap names_of_document c.as_str.ensures.value) (c.orders.ensures.value ∙ c.make_room.ensures.docs) c.in-Err.fault c.among.result _ refl
    c.among.ensures.value c.in-Err.ensures.found
    (still_open g.F.Appended.AppendFile.told first begun _ _ _ _ _ _ c.make_room.ensures.docs c.make_room.ensures.tails c.make_room.ensures.logs opens)

pub returns-in-Err-clause-changes : goal.returns-in-Err-clause-changes
returns-in-Err-clause-changes g c =
    failed_changes c.args.name.now c.of_document-names.result _ _ (c.of_document-names.ensures.value ∙ ap names_of_document c.as_str.ensures.value) c.in-Err.ensures.changes

pub returns-in-Err-clause-may_ask : goal.returns-in-Err-clause-may_ask
returns-in-Err-clause-may_ask g c =
    own_asked c.args.name.now c.of_document-names.result _ _ _ (c.of_document-names.ensures.value ∙ ap names_of_document c.as_str.ensures.value) refl c.in-Err.ensures.may_ask
