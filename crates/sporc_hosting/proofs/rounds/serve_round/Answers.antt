use Rattle.sporc_hosting.proofs.rounds.serve_round.Goals as goal

pub returns-clause-round : goal.returns-clause-round
returns-clause-round g c = record {
  served = c.serve_kept-held.result.1;
  serves = c.serve_kept-held.ensures.served;
  keeps = c.keep_log-saved.ensures.keeps;
  answer_is = c.end.ensures.value;
  behind = record { folder_faults = c.keep_log-saved.ensures.kept; sink_faults = c.keep_log-saved.ensures.out_kept };
}
