use Rattle.std.proofs.Common.{rules}
use Rattle.sporc_play.proofs.Common.{state_of}
use Rattle.sporc_play.proofs.Reported.{left_event, taken_event}
use Rattle.sporc_play.proofs.acting.give_client.Goals as goal

pub returns-in-Ok-clause-log : goal.returns-in-Ok-clause-log
returns-in-Ok-clause-log c = rw (taken_event (state_of c.args.client.now) c.args.give.now.position c.args.entry.now c.in-Ok.ensures.fault) (search rules)

pub returns-in_ok-push_accept_fault-in-Err-clause-log : goal.returns-in_ok-push_accept_fault-in-Err-clause-log
returns-in_ok-push_accept_fault-in-Err-clause-log c =
    rw (left_event (state_of c.args.client.now) c.args.give.now.position c.args.entry.now c.in-Err.fault (c.in-Err.ensures.fault c.in_ok-push_accept_fault-in-Err.ensures.named)) (search rules)
