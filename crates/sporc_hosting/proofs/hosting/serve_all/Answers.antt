use Rattle.std.proofs.Common.{Err, Ok, [], inl, inr, ℕ, List, refl, sym, subst, ◌∙◌}
use Rattle.sporc_hosting.proofs.Common.{AsksOnly, ServeAllOutcome, files_of_all, orders_in, use_of, moment_of, AsksAtMost, ends}
use Rattle.sporc_hosting.proofs.Changed.{back_changes, tails_front, tails_then}
use Rattle.sporc_hosting.proofs.Hosted.{all_open, asked_again, opened_first, tells_longer}
use Rattle.sporc_hosting.proofs.hosting.serve_all.Goals as goal

pub serve_rounds-last-requires-clause-tails : goal.serve_rounds-last-requires-clause-tails
serve_rounds-last-requires-clause-tails g c κs within =
    let more = opened_first g.F.Appended.AppendFile.told (use_of g.F.Folder.told c.args.files.now c.open_documents.new.files) c.as_slice-names.result.now (Ok tt) c.new.result c.open_documents.new.held.docs c.new-2.result.items c.open_documents.new.held.tails.items
    c.new-3.result.items c.open_documents.new.held.logs.items c.new.ensures.value c.new-2.ensures.items c.new-3.ensures.items c.in-Ok.ensures.opens in
    record {
      one_length = (all_open g.F.Appended.AppendFile.told c.as_slice-names.result.now more.opened more.held more.contents _ _ _ more.all more.are_open).0;
      tails_keep = more.are_open.kept;
    }

pub give_back-requires-clause-one_length : goal.give_back-requires-clause-one_length
give_back-requires-clause-one_length g c =
    let more = opened_first g.F.Appended.AppendFile.told (use_of g.F.Folder.told c.args.files.now c.open_documents.new.files) c.as_slice-names.result.now (Ok tt) c.new.result c.open_documents.new.held.docs c.new-2.result.items c.open_documents.new.held.tails.items
    c.new-3.result.items c.open_documents.new.held.logs.items c.new.ensures.value c.new-2.ensures.items c.new-3.ensures.items c.in-Ok.ensures.opens in
    more.are_open.each ∙ sym (all_open g.F.Appended.AppendFile.told c.as_slice-names.result.now more.opened more.held more.contents _ _ _ more.all more.are_open).0
    ∙ c.serve_rounds-last.ensures.tails.one_length

pub give_back-requires-clause-tails : goal.give_back-requires-clause-tails
give_back-requires-clause-tails g c = c.serve_rounds-last.ensures.tails.tails_keep

pub give_back-requires-in-Err-clause-one_length : goal.give_back-requires-in-Err-clause-one_length
give_back-requires-in-Err-clause-one_length g c =
    let more = opened_first g.F.Appended.AppendFile.told (use_of g.F.Folder.told c.args.files.now c.open_documents.new.files) c.as_slice-names.result.now (Err c.in-Err.fault) c.new.result c.open_documents.new.held.docs c.new-2.result.items c.open_documents.new.held.tails.items
    c.new-3.result.items c.open_documents.new.held.logs.items c.new.ensures.value c.new-2.ensures.items c.new-3.ensures.items c.in-Err.ensures.opens in
    more.are_open.each

pub give_back-requires-in-Err-clause-tails : goal.give_back-requires-in-Err-clause-tails
give_back-requires-in-Err-clause-tails g c =
    let more = opened_first g.F.Appended.AppendFile.told (use_of g.F.Folder.told c.args.files.now c.open_documents.new.files) c.as_slice-names.result.now (Err c.in-Err.fault) c.new.result c.open_documents.new.held.docs c.new-2.result.items c.open_documents.new.held.tails.items
    c.new-3.result.items c.open_documents.new.held.logs.items c.new.ensures.value c.new-2.ensures.items c.new-3.ensures.items c.in-Err.ensures.opens in
    more.are_open.kept

pub returns-in-Err-clause-outcome : goal.returns-in-Err-clause-outcome
returns-in-Err-clause-outcome g c =
    let more = opened_first g.F.Appended.AppendFile.told (use_of g.F.Folder.told c.args.files.now c.open_documents.new.files) c.as_slice-names.result.now (Err c.in-Err.fault) c.new.result c.open_documents.new.held.docs c.new-2.result.items c.open_documents.new.held.tails.items
    c.new-3.result.items c.open_documents.new.held.logs.items c.new.ensures.value c.new-2.ensures.items c.new-3.ensures.items c.in-Err.ensures.opens in
    subst (λ (ns : List (List ℕ)). ServeAllOutcome ns c.args.asked.now.sessions c.args.asked.now.times
    (use_of g.F.Folder.told c.args.files.now c.give_back-in-Err.new.files) (use_of g.O.Stream.told c.args.out.now c.args.out.now)
    (g.N.Links.told c.args.net.now) (g.N.Links.told c.args.net.now) c.after_last-in-Err.result)
    c.as_slice-names.ensures.value (inl (record {
      contents = more.contents;
      are = more.are;
      fault = c.in-Err.fault;
      logs = c.open_documents.new.held.logs.items;
      orders = c.open_documents.new.held.docs;
      begun = g.F.Folder.told c.open_documents.new.files;
      given = c.give_back-in-Err.result;
      gives = c.give_back-in-Err.ensures.gives;
      answer_is = c.after_last-in-Err.ensures.value;
      fails = tells_longer (g.F.Folder.told c.args.files.now).faults (g.F.Folder.told c.open_documents.new.files).faults
          (g.F.Folder.told c.give_back-in-Err.new.files).faults c.in-Err.fault (orders_in 1 [] more.contents) c.give_back-in-Err.ensures.kept more.found;
      changes = tails_then c.as_slice-names.result.now _ _ _ c.in-Err.ensures.changes
          (tails_front c.as_slice-names.result.now more.opened more.rest _ _ more.names_are
          (back_changes more.opened 1 c.open_documents.new.held.logs.items c.open_documents.new.held.docs
          c.in-Err.fault (g.F.Folder.told c.open_documents.new.files) (g.F.Folder.told c.give_back-in-Err.new.files) c.give_back-in-Err.result more.are_open.named c.give_back-in-Err.ensures.gives));
      net = refl;
      unwritten = record { written = refl; faults = refl };
    }))

pub returns-in-Ok-clause-files_may_ask : goal.returns-in-Ok-clause-files_may_ask
returns-in-Ok-clause-files_may_ask g c =
    subst (λ (ns : List (List ℕ)). AsksOnly (files_of_all ns) (g.F.Folder.told c.args.files.now).asked (g.F.Folder.told c.give_back.new.files).asked) c.as_slice-names.ensures.value
    (subst (AsksOnly (files_of_all c.as_slice-names.result.now) (g.F.Folder.told c.args.files.now).asked) (sym c.give_back.ensures.asked)
    (asked_again c.as_slice-names.result.now _ _ _ c.in-Ok.ensures.may_ask c.serve_rounds-last.ensures.files_may_ask))

pub returns-in-Err-clause-files_may_ask : goal.returns-in-Err-clause-files_may_ask
returns-in-Err-clause-files_may_ask g c =
    subst (λ (ns : List (List ℕ)). AsksOnly (files_of_all ns) (g.F.Folder.told c.args.files.now).asked (g.F.Folder.told c.give_back-in-Err.new.files).asked) c.as_slice-names.ensures.value
    (subst (AsksOnly (files_of_all c.as_slice-names.result.now) (g.F.Folder.told c.args.files.now).asked) (sym c.give_back-in-Err.ensures.asked) c.in-Err.ensures.may_ask)

pub returns-in-Ok-clause-net_may_ask : goal.returns-in-Ok-clause-net_may_ask
returns-in-Ok-clause-net_may_ask g c =
    subst (AsksAtMost c.args.asked.now.times (g.N.Links.told c.args.net.now).asked (g.N.Links.told c.serve_rounds-last.new.net).asked) c.as_str-address.ensures.value
    c.serve_rounds-last.ensures.net_may_ask

pub returns-in-Ok-clause-outcome : goal.returns-in-Ok-clause-outcome
returns-in-Ok-clause-outcome g c =
    let more = opened_first g.F.Appended.AppendFile.told (use_of g.F.Folder.told c.args.files.now c.open_documents.new.files) c.as_slice-names.result.now (Ok tt) c.new.result c.open_documents.new.held.docs c.new-2.result.items c.open_documents.new.held.tails.items
    c.new-3.result.items c.open_documents.new.held.logs.items c.new.ensures.value c.new-2.ensures.items c.new-3.ensures.items c.in-Ok.ensures.opens in
    let open_all = all_open g.F.Appended.AppendFile.told c.as_slice-names.result.now more.opened more.held more.contents c.open_documents.new.held.docs c.open_documents.new.held.tails.items
    c.open_documents.new.held.logs.items more.all more.are_open in
    subst (λ (ns : List (List ℕ)). ServeAllOutcome ns c.args.asked.now.sessions c.args.asked.now.times
    (use_of g.F.Folder.told c.args.files.now c.give_back.new.files) (use_of g.O.Stream.told c.args.out.now c.serve_rounds-last.new.out)
    (g.N.Links.told c.args.net.now) (g.N.Links.told c.serve_rounds-last.new.net) c.after_last.result)
    c.as_slice-names.ensures.value (inr (record {
      contents = more.contents;
      are = more.are;
      before = c.open_documents.new.held.docs;
      begins = more.found;
      logs = c.open_documents.new.held.logs.items;
      have_logged = open_all.1;
      named = open_all.2;
      opened = moment_of g.F.Folder.told g.O.Stream.told c.open_documents.new.files c.args.out.now;
      is_opened = record { files = c.in-Ok.ensures.made; since = c.in-Ok.ensures.kept; written = refl; sink_faults = refl };
      last = ends g.F.Folder.told g.O.Stream.told g.N.Links.told (λ kept. kept.docs) c.serve_rounds-last.result c.serve_rounds-last.new.files c.serve_rounds-last.new.out
          c.serve_rounds-last.new.net;
      rounds = c.serve_rounds-last.ensures.rounds;
      net = refl;
      given = c.give_back.result;
      gives = c.give_back.ensures.gives;
      alone = record { folder_faults = c.give_back.ensures.kept; written = refl; sink_faults = refl };
      answer_is = c.after_last.ensures.value;
    }))
