use Rattle.std.proofs.Common.{arith, take}
use Rattle.sporc_exchange.proofs.Inboxes.{fed_stays}
use Rattle.sporc_exchange.proofs.inbox.Inbox.feed.Goals as goal

pub invariant_of-self-2 : goal.invariant_of-self-2
invariant_of-self-2 c = fed_stays c.self.inside.frames c.feed.new.self (take c.self.inside.len c.self.inside.piece) c.self.inside.len c.self.invariant (λ e. omega (arith, e, c.if-self-eq0.false)) c.in_ok-feed.ensures.ok
