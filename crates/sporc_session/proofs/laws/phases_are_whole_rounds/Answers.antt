use Rattle.sporc_session.proofs.WholeRounds.{phase_leads, rounds_lead, whole_phase, whole_rounds}
use Rattle.sporc_session.proofs.laws.phases_are_whole_rounds.Goals as goal

pub returns : goal.returns
returns c = record {
  rounds = λ ready acts n. (whole_rounds ready, rounds_lead ready);
  first_phase = λ ready acts n. (whole_phase ready acts n, phase_leads ready);
}
