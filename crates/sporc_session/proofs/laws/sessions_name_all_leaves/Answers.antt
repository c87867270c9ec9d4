use Rattle.std.proofs.Common.{subst}
use Rattle.sporc_session.proofs.Common.{IsSession}
use Rattle.sporc_session.proofs.LastLeaves.{session_names_all}
use Rattle.sporc_session.proofs.laws.sessions_name_all_leaves.Goals as goal

pub returns : goal.returns
returns c = record {
  leaves = λ past session next began is.
      session_names_all past session.before session.after session.rounds session.until next session.scripts began (subst (IsSession session.before session.after session.rounds session.until session.scripts) is session.is);
}
