use Rattle.std.proofs.Common.{List, length, ap, sym, subst, ◌∙◌}
use Rattle.sporc_hosting.proofs.Common.{OrderModel, KeepsLogs, moment_of}
use Rattle.sporc_hosting.proofs.Saved.{as_many}
use Rattle.sporc_hosting.proofs.rounds_of_all.serve_round.Goals as goal

pub returns-clause-round : goal.returns-clause-round
returns-clause-round g c = record {
  served = c.serve_docs_kept-held.result.1;
  serves = c.serve_docs_kept-held.ensures.served;
  keeps = subst (λ (orders : List OrderModel). KeepsLogs c.args.rounds.now.names.now.words.now orders
      (moment_of g.F.Folder.told g.O.Stream.told c.args.files.now c.args.out.now)
      (moment_of g.F.Folder.told g.O.Stream.told c.keep_logs-saved.new.files c.keep_logs-saved.new.out)
      c.keep_logs-saved.result) c.orders.ensures.value c.keep_logs-saved.ensures.keeps;
  answer_is = c.end.ensures.value;
  behind = record { folder_faults = c.keep_logs-saved.ensures.kept; sink_faults = c.keep_logs-saved.ensures.out_kept };
}

pub keep_logs-saved-requires : goal.keep_logs-saved-requires
keep_logs-saved-requires g c = record {
  one_length = c.requires.tails.one_length ∙ as_many _ c.args.held.docs c.serve_docs_kept-held.result.0.docs c.serve_docs_kept-held.ensures.served.1.served
      ∙ ap (λ (os : List OrderModel). length os) (sym c.orders.ensures.value);
}

pub serve_docs_kept-held-requires-clause-tails : goal.serve_docs_kept-held-requires-clause-tails
serve_docs_kept-held-requires-clause-tails g c κs within = c.requires.tails.tails_keep

pub returns-clause-tails : goal.returns-clause-tails
returns-clause-tails g c = record {
  one_length = c.requires.tails.one_length ∙ as_many _ c.args.held.docs c.serve_docs_kept-held.result.0.docs c.serve_docs_kept-held.ensures.served.1.served;
  tails_keep = c.serve_docs_kept-held.ensures.tails;
}
