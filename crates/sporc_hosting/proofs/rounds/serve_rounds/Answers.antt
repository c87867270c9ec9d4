use Rattle.std.proofs.Common.{[], ◌∷◌, ◌∙◌, arith}
use Rattle.sporc_hosting.proofs.Common.{file_name, AsksOnly-trans, asks_less, asks_more, asks_once}
use Rattle.sporc_outside.proofs.Returning.{shut_then}
use Rattle.sporc_files.specs.declared.file.File.TheVariants as kinds
use Rattle.sporc_hosting.proofs.Roundabout.{all_rounds, ended_early, first_round, next_round}
use Rattle.sporc_hosting.proofs.rounds.serve_rounds.Goals as goal

pub rounds-init : goal.rounds-init
rounds-init g c = record {
  rounds = first_round _ _ _ c.serve_round-last.ensures.round;
  some = omega arith;
  within = c.requires.times_positive;
  tail = c.serve_round-last.ensures.tail;
  lent = c.serve_round-last.ensures.lent;
  asked = c.serve_round-last.ensures.files_may_ask;
  kept = c.serve_round-last.ensures.files_kept;
  net_asked = asks_once _ _ _ c.serve_round-last.ensures.net_may_ask;
  shut = c.serve_round-last.ensures.shut;
  links_out = c.serve_round-last.ensures.links_out;
  net_kept = c.serve_round-last.ensures.net_kept;
  out_kept = c.serve_round-last.ensures.out_kept;
}

pub rounds-preserved : goal.rounds-preserved
rounds-preserved g c = record {
  rounds = next_round _ _ _ _ _ c.rounds.invariant.rounds c.in-Ok.is c.serve_round-last-in-rounds.ensures.round;
  some = omega arith;
  within = omega arith;
  tail = c.serve_round-last-in-rounds.ensures.tail;
  lent = c.serve_round-last-in-rounds.ensures.lent ∙ c.rounds.invariant.lent;
  asked = AsksOnly-trans (file_name c.args.rounds.now.names.now kinds.Log ∷ []) _ _ _ c.rounds.invariant.asked c.serve_round-last-in-rounds.ensures.files_may_ask;
  kept = omega (arith, c.rounds.invariant.kept, c.serve_round-last-in-rounds.ensures.files_kept);
  net_asked = asks_more _ _ _ _ _ c.rounds.invariant.net_asked c.serve_round-last-in-rounds.ensures.net_may_ask;
  shut = shut_then (g.N.Links.told c.args.net.now).returned (g.N.Links.told c.rounds.net).returned
      (g.N.Links.told c.serve_round-last-in-rounds.new.net).returned c.rounds.invariant.shut c.serve_round-last-in-rounds.ensures.shut;
  links_out = c.serve_round-last-in-rounds.ensures.links_out ∙ c.rounds.invariant.links_out;
  net_kept = omega (arith, c.rounds.invariant.net_kept, c.serve_round-last-in-rounds.ensures.net_kept);
  out_kept = omega (arith, c.rounds.invariant.out_kept, c.serve_round-last-in-rounds.ensures.out_kept);
}

pub returns-in-Err-clause-rounds : goal.returns-in-Err-clause-rounds
returns-in-Err-clause-rounds g c = ended_early _ _ _ _ _ _ c.rounds.invariant.rounds c.rounds.invariant.within c.in-Err.is

pub returns-in-Err-clause-net_may_ask : goal.returns-in-Err-clause-net_may_ask
returns-in-Err-clause-net_may_ask g c = asks_less _ _ _ _ _ c.rounds.invariant.within c.rounds.invariant.net_asked

pub returns-clause-rounds : goal.returns-clause-rounds
returns-clause-rounds g c = all_rounds _ _ _ _ _ c.rounds.invariant.rounds c.rounds.invariant.within (λ good. omega arith)

pub returns-clause-net_may_ask : goal.returns-clause-net_may_ask
returns-clause-net_may_ask g c = asks_less _ _ _ _ _ c.rounds.invariant.within c.rounds.invariant.net_asked
