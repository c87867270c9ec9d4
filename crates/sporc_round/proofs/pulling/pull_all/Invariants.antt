use Rattle.std.proofs.Common.{◌≡◌, ◌+◌, ◌-◌, ℕ, List, length}
use Rattle.sporc_client.specs.ClientModel.{state_of}
use Rattle.sporc_exchange.specs.Wires.{link_at}
use Rattle.sporc_head.specs.declared.limits.TheConstants.{MAX_ENTRIES}
use Rattle.sporc_round.specs.Pulling.{Pulled}
use Rattle.sporc_round.proofs.pulling.pull_all.Given as goal

abbrev pub invariant-loop-alloc : goal.invariant-loop-alloc
invariant-loop-alloc g l = record {
  pulled : (batches : List (List (List ℕ))) × Pulled l.initial.client l.client (link_at (g.L.Stream.told l.initial.link) l.initial.inbox) (link_at (g.L.Stream.told l.link) l.inbox) batches;
  shut : (g.L.Stream.told l.link).is_shut ≡ (g.L.Stream.told l.initial.link).is_shut;
}

abbrev pub decreases-loop-alloc : goal.decreases-loop-alloc
decreases-loop-alloc g l = (MAX_ENTRIES + 1) - length (state_of l.client).entries
