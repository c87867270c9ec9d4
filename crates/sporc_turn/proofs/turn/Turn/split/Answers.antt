use Rattle.std.proofs.Common.{rules, subst, ap, ◌∙◌, sym}
use Rattle.sporc_turn.proofs.Common.{IsIdle}
use Rattle.sporc_turn.proofs.Passes.{splits, view_there}
use Rattle.sporc_turn.proofs.turn.Turn.split.Goals as goal

pub split_seat-other-requires : goal.split_seat-other-requires
split_seat-other-requires g c =
    let is = view_there _ _ c.into_seat-seat.ensures.2 in
    (search rules, search rules, splits g.S.Kept.log g.S.Kept.watermark g.S.Kept.by _ _ _ (subst IsIdle is c.args.pass.idle).2 (ap (λ v. v.known.number) (sym is) ∙ c.requires.first))
