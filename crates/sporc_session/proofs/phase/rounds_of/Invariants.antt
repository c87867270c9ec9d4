use Rattle.std.proofs.Common.{◌≡◌, ◌-◌, ◌≤◌}
use Rattle.sporc_session.proofs.Common.{known_of, IsPassOf, CountsSame, stand_at, Between, always, Did}
use Rattle.sporc_session.proofs.phase.rounds_of.Given as goal

abbrev pub invariant-loop-done : goal.invariant-loop-done
invariant-loop-done g l = record {
  lock : IsPassOf l.context.shared.now l.mine;
  counts : CountsSame (known_of l.initial.mine) (known_of l.mine);
  low : l.done ≤ l.rounds;
  shut : (g.L.Stream.told l.link).is_shut ≡ (g.L.Stream.told l.initial.link).is_shut;
  did : Did always (stand_at l.initial.mine (g.L.Stream.told l.initial.link) l.initial.inbox (g.C.Chance.told l.initial.chance))
      (stand_at l.mine (g.L.Stream.told l.link) l.inbox (g.C.Chance.told l.chance)) (Between 0) (Between l.done);
}

abbrev pub decreases-loop-done : goal.decreases-loop-done
decreases-loop-done g l = l.rounds - l.done
