use Rattle.std.proofs.Common.{◌≡◌, ◌-◌, ◌+◌, ◌*◌, ◌≤◌, ℕ, Bool, List, [], Option}
use Rattle.sporc_session.proofs.Common.{known_of, IsPassOf, MAX_ENTRIES, Refusal, link_at, stand, CountsSame, Taking, Drains, Did}
use Rattle.sporc_turn.specs.Rule.{one_if}
use Rattle.sporc_session.proofs.Rounding.{draining}
use Rattle.sporc_session.proofs.round.drain.Given as goal

abbrev pub invariant-loop-more : goal.invariant-loop-more
invariant-loop-more g l = record {
  lock : IsPassOf l.context.shared.now l.mine;
  counts : CountsSame (known_of l.initial.mine) (known_of l.mine);
  small : l.now ≤ MAX_ENTRIES;
  shut : (g.L.Stream.told l.link).is_shut ≡ (g.L.Stream.told l.initial.link).is_shut;
  did : (entry : List ℕ) (refusal : Refusal) (words : Option (List (List ℕ))) (count : ℕ) (ready : ℕ → ℕ → Bool) (n : ℕ) → Did ready
      (stand (known_of l.initial.mine) (link_at (g.L.Stream.told l.initial.link) l.initial.inbox) words count)
      (stand (known_of l.mine) (link_at (g.L.Stream.told l.link) l.inbox) words count)
      (Taking n l.initial.now [] (Drains entry refusal)) (draining l.more n l.now entry refusal);
}

abbrev pub decreases-loop-more : goal.decreases-loop-more
decreases-loop-more g l = 2 * (MAX_ENTRIES - l.now) + one_if l.more
