use Rattle.std.proofs.Common.{rules, ap, ◌∙◌, arith}
use Rattle.sporc_turn.proofs.Turns.{reads, draws}
use Rattle.sporc_turn.proofs.turn.Turn.draw.Goals as goal

pub load-next-requires : goal.load-next-requires
load-next-requires g c = (search rules, search rules, reads g.S.Kept.log g.S.Kept.watermark g.S.Kept.by _ _ _ _)

pub compare_exchange-found-requires : goal.compare_exchange-found-requires
compare_exchange-found-requires g c =
    let first_idle = c.tries.invariant.4 in
    let e = c.load-next.ensures.2.0 in
    (search rules, search rules, draws g.S.Kept.log g.S.Kept.watermark g.S.Kept.by _ _ _ _ _ (ap (λ m. m.0.waits) e ∙ first_idle.0, ap (λ m. m.0.turns) e ∙ first_idle.1, ap (λ m. m.0.known.spent) e ∙ first_idle.2) (omega arith))
