use Rattle.sporc_session.proofs.Runs.{session_leads}
use Rattle.sporc_session.proofs.laws.sessions_are_moves.Goals as goal

pub returns : goal.returns
returns c = record {
  moves = λ s w who past session has began.
      let m = session_leads s w who past session.before session.after session.rounds session.until session.scripts session.result has began session.is in
      record { events = m.0; log_is = m.1; lead = m.2 };
}
