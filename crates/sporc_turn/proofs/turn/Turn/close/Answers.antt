use Rattle.std.proofs.Common.{subst, refl}
use Rattle.std.specs.Option.{IsSome}
use Rattle.sporc_turn.proofs.Passes.{all_joined, closed, closes, view_there}
use Rattle.sporc_turn.proofs.turn.Turn.close.Goals as goal

pub unwrap-value-requires : goal.unwrap-value-requires
unwrap-value-requires g c =
    let t = closes g.S.Kept.log g.S.Kept.watermark g.S.Kept.by _ _ _ _ _ _ _ (view_there _ _ c.into_seat.ensures.2) c.args.pass.idle c.requires.first (all_joined c.args.pass c.in_default.ensures.none) c.close_with-closed.ensures.values.2 c.take.ensures.value in
    subst IsSome t.1 refl

pub returns-clause-log : goal.returns-clause-log
returns-clause-log g c = (closed g.S.Kept.log g.S.Kept.watermark g.S.Kept.by _ _ _ _ _ _ _ _ c.unwrap-value.ensures (view_there _ _ c.into_seat.ensures.2) c.args.pass.idle c.requires.first (all_joined c.args.pass c.in_default.ensures.none) c.close_with-closed.ensures.values.2 c.take.ensures.value).0

pub returns-clause-agrees : goal.returns-clause-agrees
returns-clause-agrees g c = (closed g.S.Kept.log g.S.Kept.watermark g.S.Kept.by _ _ _ _ _ _ _ _ c.unwrap-value.ensures (view_there _ _ c.into_seat.ensures.2) c.args.pass.idle c.requires.first (all_joined c.args.pass c.in_default.ensures.none) c.close_with-closed.ensures.values.2 c.take.ensures.value).1

pub returns-clause-watermark : goal.returns-clause-watermark
returns-clause-watermark g c = (closed g.S.Kept.log g.S.Kept.watermark g.S.Kept.by _ _ _ _ _ _ _ _ c.unwrap-value.ensures (view_there _ _ c.into_seat.ensures.2) c.args.pass.idle c.requires.first (all_joined c.args.pass c.in_default.ensures.none) c.close_with-closed.ensures.values.2 c.take.ensures.value).2
