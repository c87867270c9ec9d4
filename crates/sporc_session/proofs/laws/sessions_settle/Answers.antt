use Rattle.std.proofs.Common.{subst}
use Rattle.sporc_session.proofs.Common.{IsSession}
use Rattle.sporc_session.proofs.Settling.{session_settled, session_unsettled}
use Rattle.sporc_session.proofs.laws.sessions_settle.Goals as goal

pub returns : goal.returns
returns c = record {
  settled = λ past session left ok.
      let s = session_settled past session.before session.after session.rounds session.until session.scripts left (subst (IsSession session.before session.after session.rounds session.until session.scripts) ok session.is) in
      record { pending = s.0; entries = s.1 };
  unsettled = λ past session pending at left is.
      let u = session_unsettled past session.before session.after session.rounds session.until pending at session.scripts left (subst (IsSession session.before session.after session.rounds session.until session.scripts) is session.is) in
      (record { at_is = u.1; pending_is = u.0 }, u.2);
}
