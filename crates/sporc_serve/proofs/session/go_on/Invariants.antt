use Rattle.std.proofs.Common.{◌≡◌, None}
use Rattle.sporc_serve.proofs.Common.{known_of, IsPassOf, stand_at, Leads}
use Rattle.sporc_serve.proofs.session.go_on.Given as goal

abbrev pub invariant-loop : goal.invariant-loop
invariant-loop g l = record {
  lock : IsPassOf l.service.turn.now l.pass;
  number : (known_of l.pass).number ≡ (known_of l.initial.pass).number;
  shut : (g.L.Stream.told l.link).is_shut ≡ (g.L.Stream.told l.initial.link).is_shut;
  trace : Leads
      (stand_at (known_of l.initial.pass) (g.L.Stream.told l.initial.link) l.initial.frames l.initial.session)
      (stand_at (known_of l.pass) (g.L.Stream.told l.link) l.frames l.session) None;
}
