use Rattle.sporc_session.proofs.Making.{makers}
use Rattle.sporc_session.proofs.laws.sessions_add_what_their_makers_make.Goals as goal

pub returns : goal.returns
returns c = record {
  makers = λ session own_are low. makers session.before session.after session.rounds session.until session.scripts session.result own_are low session.is;
}
