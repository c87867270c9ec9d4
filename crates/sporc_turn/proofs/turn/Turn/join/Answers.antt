use Rattle.std.proofs.Common.{rules, subst, ap, ◌∙◌, sym}
use Rattle.sporc_turn.proofs.Common.{Agrees, IsIdle}
use Rattle.sporc_turn.proofs.Turns.{compares}
use Rattle.sporc_turn.proofs.Passes.{joins, view_there}
use Rattle.sporc_turn.proofs.turn.Turn.join.Goals as goal

pub join_seat-requires : goal.join_seat-requires
join_seat-requires g c =
    let is = view_there _ _ c.into_seat-seat.ensures.2 in (
      search rules,
      search rules,
      search rules,
      search rules,
      joins g.S.Kept.log g.S.Kept.watermark g.S.Kept.by _ _ _ _ _ (subst IsIdle is c.args.a.idle) (ap (λ v. v.known.number) (sym is) ∙ c.requires.first) (subst IsIdle (view_there _ _ c.into_seat.ensures.2) c.args.b.idle),
    )

pub load-requires : goal.load-requires
load-requires g c =
    let first_idle = subst IsIdle (view_there _ _ c.into_seat-seat.ensures.2) c.args.a.idle in
    (search rules, search rules, compares g.S.Kept.log g.S.Kept.watermark g.S.Kept.by _ _ _ _ (ap (λ m. m.0.known.spent) c.join_seat.ensures.2 ∙ first_idle.2))

pub returns-clause-agrees : goal.returns-clause-agrees
returns-clause-agrees g c =
    let known = ap (λ v. v.known) (view_there _ _ c.into_badge.ensures.2) ∙ ap (λ m. m.0.known) c.load.ensures.2.0 in
    subst (λ k. Agrees g.S.Kept.by k k.seen) (sym known) c.load.ensures.2.2
