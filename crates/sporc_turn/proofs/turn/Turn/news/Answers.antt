use Rattle.std.proofs.Common.{rules, subst}
use Rattle.sporc_turn.proofs.Common.{IsIdle}
use Rattle.sporc_turn.proofs.Turns.{hears}
use Rattle.sporc_turn.proofs.Passes.{view_there}
use Rattle.sporc_turn.proofs.turn.Turn.news.Goals as goal

pub load-news-requires : goal.load-news-requires
load-news-requires g c = (search rules, search rules, hears g.S.Kept.log g.S.Kept.watermark g.S.Kept.by _ _ _ _ (subst IsIdle (view_there _ _ c.into_seat-seat.ensures.2) c.args.pass.idle).2)
