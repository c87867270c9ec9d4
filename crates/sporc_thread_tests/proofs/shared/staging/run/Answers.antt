use Rattle.std.proofs.Common.{ap}
use Rattle.sporc_turn.specs.declared.known.Known.{Known}
use Rattle.sporc_shared.specs.Items.{Item, past_of}
use Rattle.sporc_thread_tests.proofs.shared.staging.run.Goals as goal

pub session-answer-requires-clause-allowed : goal.session-answer-requires-clause-allowed
session-answer-requires-clause-allowed g c κs within =
    record { past = past_of c.args.client; log_is = ap (λ (k : Known Item). k.seen) c.in-Ok.ensures.first; allowed = c.in-Ok.ensures.allowed }
