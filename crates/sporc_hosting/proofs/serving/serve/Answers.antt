use Rattle.std.proofs.Common.{ℕ, List, Err, [], ◌∷◌, refl, ap, map, sym, subst, ◌∙◌, inl, inr}
use Rattle.sporc_hosting.proofs.Common.{err_from_is_err_and, use_of, FileNames, file_name, names_of_document, AsksOnly, asks_again, OpenedOrder, ServeOutcome, AsksAtMost, ends, served_files}
use Rattle.sporc_hosting.proofs.Common.{GivesBack, OrderModel, Rose}
use Rattle.sporc_files.specs.declared.file.File.TheVariants as files
use Rattle.sporc_hosting.specs.Moments.{moment_of}
use Rattle.sporc_hosting.specs.Serving.{order_in}
use Rattle.sporc_hosting.proofs.Loaded.{other_view}
use Rattle.sporc_hosting.proofs.serving.serve.Goals as goal

pub returns-in_err-opened-clause-outcome : goal.returns-in_err-opened-clause-outcome
returns-in_err-opened-clause-outcome g c =
    let failed = err_from_is_err_and c.from_residual.result c.from_residual.ensures.1 in
    let (content, are, tells, none) = c.in_err-opened.ensures.found in
    subst (λ (n : FileNames). ServeOutcome n c.args.asked.now.sessions c.args.asked.now.times
    (use_of g.F.Folder.told c.args.files.now c.open_order.new.files) (use_of g.O.Stream.told c.args.out.now c.args.out.now)
    (g.N.Links.told c.args.net.now) (g.N.Links.told c.args.net.now) c.from_residual.result)
    (c.of_document-names.ensures.value ∙ ap names_of_document c.as_str.ensures.value) (inl (record {
      content = content;
      are = are;
      fault = c.in_err-opened.field-0.0;
      answer_is = failed.1 ∙ ap Err failed.2;
      fails = other_view (λ (it : OpenedOrder g.row.F-Appended.Denot). it.kept.order) (λ (o : OrderModel). o)
          (Rose (g.F.Folder.told c.args.files.now).faults (g.F.Folder.told c.open_order.new.files).faults) c.in_err-opened.field-0.0 (order_in content) tells;
      changes = c.in_err-opened.ensures.changes;
      net = refl;
      unwritten = record { written = refl; faults = refl };
    }))

pub returns-in_err-opened-clause-files_may_ask : goal.returns-in_err-opened-clause-files_may_ask
returns-in_err-opened-clause-files_may_ask g c =
    subst (λ (n : FileNames). AsksOnly (map (file_name n) served_files) (g.F.Folder.told c.args.files.now).asked (g.F.Folder.told c.open_order.new.files).asked)
    (c.of_document-names.ensures.value ∙ ap names_of_document c.as_str.ensures.value) c.in_err-opened.ensures.may_ask

pub returns-clause-files_may_ask : goal.returns-clause-files_may_ask
returns-clause-files_may_ask g c =
    let names = c.of_document-names.result in
    subst (λ (n : FileNames). AsksOnly (map (file_name n) served_files) (g.F.Folder.told c.args.files.now).asked (g.F.Folder.told c.give_back.new.files).asked)
    (c.of_document-names.ensures.value ∙ ap names_of_document c.as_str.ensures.value)
    (subst (AsksOnly (map (file_name names) served_files) (g.F.Folder.told c.args.files.now).asked) (sym c.give_back.ensures.asked)
    (asks_again (file_name names files.Genesis ∷ file_name names files.Tail ∷ []) (file_name names files.Log ∷ []) _ _ _ c.in_ok-opened.ensures.may_ask
    c.serve_rounds-last.ensures.files_may_ask))

pub returns-clause-outcome : goal.returns-clause-outcome
returns-clause-outcome g c =
    let (content, are, begins, has) = c.in_ok-opened.ensures.found in
    let (given, gives, is) = c.give_back.ensures.given in
    let end = c.serve_rounds-last.result in
    subst (λ (n : FileNames). ServeOutcome n c.args.asked.now.sessions c.args.asked.now.times
    (use_of g.F.Folder.told c.args.files.now c.give_back.new.files) (use_of g.O.Stream.told c.args.out.now c.serve_rounds-last.new.out)
    (g.N.Links.told c.args.net.now) (g.N.Links.told c.serve_rounds-last.new.net) c.give_back.result)
    (c.of_document-names.ensures.value ∙ ap names_of_document c.as_str.ensures.value) (inr (record {
      content = content;
      are = are;
      before = c.in_ok-opened.opened.kept.order;
      begins = begins;
      logged = c.in_ok-opened.opened.logged;
      has_logged = has;
      opened = moment_of g.F.Folder.told g.O.Stream.told c.open_order.new.files c.args.out.now;
      is_opened = record { files = c.in_ok-opened.ensures.made; since = c.in_ok-opened.ensures.kept; written = refl; sink_faults = refl };
      last = ends g.F.Folder.told g.O.Stream.told g.N.Links.told (λ kept. kept.order) end c.serve_rounds-last.new.files c.serve_rounds-last.new.out c.serve_rounds-last.new.net;
      rounds = c.serve_rounds-last.ensures.rounds;
      net = refl;
      given = given;
      gives = subst (λ (n : List ℕ). GivesBack n
          (use_of g.F.Folder.told c.serve_rounds-last.new.files c.give_back.new.files)
          c.in_ok-opened.opened.logged end.held.order.genesis.document end.held.order.entries end.saved given)
          (c.as_str-2.ensures.value ∙ c.in_ok-opened.ensures.name) gives;
      alone = record { folder_faults = c.give_back.ensures.kept; written = refl; sink_faults = refl };
      answer_is = is;
    }))

pub returns-clause-net_may_ask : goal.returns-clause-net_may_ask
returns-clause-net_may_ask g c =
    subst (AsksAtMost c.args.asked.now.times (g.N.Links.told c.args.net.now).asked (g.N.Links.told c.serve_rounds-last.new.net).asked) c.as_str-address.ensures.value c.serve_rounds-last.ensures.net_may_ask
