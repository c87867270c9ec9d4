use Rattle.sporc_clients.proofs.Common.{past_of}
use Rattle.sporc_turn.specs.Passes.{known_of}
use Rattle.sporc_clients.proofs.Sessioning.{disk_counted, is_first_known, session_of}
use Rattle.sporc_clients.proofs.CountsRose.{session_kept, session_rose}
use Rattle.sporc_clients.proofs.session.run_session.Goals as goal

pub session-result-requires-clause-allowed : goal.session-result-requires-clause-allowed
session-result-requires-clause-allowed g c κs within =
    (is_first_known (known_of c.in-Ok.first) (past_of c.args.client) c.in-Ok.ensures.first c.in-Ok.ensures.allowed).allowed

pub returns-in-Ok-close-clause-session : goal.returns-in-Ok-close-clause-session
returns-in-Ok-close-clause-session g c =
    session_of _ _ _ _ (known_of c.in-Ok.first) c.session-result.result.1 c.session-result.ensures.session.0 _ _ _
    c.as_slice-editors.ensures.value c.in-Ok.ensures.first c.session-result.ensures.session.1 c.session-result.ensures.read c.in-Ok-close.ensures.log c.in-Ok-close.ensures.allowed

pub returns-in-Ok-close-clause-causes : goal.returns-in-Ok-close-clause-causes
returns-in-Ok-close-clause-causes g c = session_rose _ _ c.args.wanted.now.rounds c.args.wanted.now.until c.as_slice-editors.result.now c.session-result.result.0 c.session-result.ensures.session.1

pub returns-in-Ok-close-clause-chance_kept : goal.returns-in-Ok-close-clause-chance_kept
returns-in-Ok-close-clause-chance_kept g c = (session_kept _ _ c.args.wanted.now.rounds c.args.wanted.now.until c.as_slice-editors.result.now c.session-result.result.0 c.session-result.ensures.session.1).chance

pub returns-in-Ok-close-clause-disk : goal.returns-in-Ok-close-clause-disk
returns-in-Ok-close-clause-disk g c = disk_counted c.session-result.result.1 _ c.session-result.result.0 c.session-result.ensures.read c.in-Ok-close.ensures.watermark
