use Rattle.std.proofs.Common.{◌≡◌, ◌+◌, ◌-◌, ◌++◌, [], length}
use Rattle.sporc_exchange.proofs.Common.{MAX_BODY, Exchanged, link_at}
use Rattle.sporc_exchange.proofs.exchange.receive.Given as goal

abbrev pub invariant-loop-message : goal.invariant-loop-message
invariant-loop-message g l = record {
  did : Exchanged (link_at (g.L.Stream.told l.initial.link) l.initial.inbox) (link_at (g.L.Stream.told l.link) l.inbox) [] [];
  at : l.inbox.at ≡ l.initial.inbox.at;
  shut : (g.L.Stream.told l.link).is_shut ≡ (g.L.Stream.told l.initial.link).is_shut;
}

abbrev pub decreases-loop-message : goal.decreases-loop-message
decreases-loop-message g l = (MAX_BODY + 4) - length (l.inbox.rest ++ l.inbox.held)
