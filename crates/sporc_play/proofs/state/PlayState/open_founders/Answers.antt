use Rattle.std.proofs.Common.{List, sym, subst}
use Rattle.sporc_play.proofs.Common.{Contains, Device, Genesis, IsGenesis}
use Rattle.sporc_play.proofs.FirstMoves.{founders_open}
use Rattle.sporc_play.proofs.Openings.{device_there}
use Rattle.sporc_play.proofs.state.PlayState.open_founders.Goals as goal

pub open_by-requires-clause-opens : goal.open_by-requires-clause-opens
open_by-requires-clause-opens c = founders_open c.args.lines.now _ _ c.loop-line.invariant.stands

pub open_by-requires-clause-seated : goal.open_by-requires-clause-seated
open_by-requires-clause-seated c who is =
    subst (λ (ds : List Device). Contains ds who) (sym c.loop-line.invariant.stands.seated)
    (device_there c.args.lines.now c.loop-line.line-index c.line-item.result who c.loop-line-test.true c.line-item.is is)

pub loop-line-preserved : goal.loop-line-preserved
loop-line-preserved c = record {
  genesis = subst (λ (g : Genesis). IsGenesis g) (sym c.open_by.ensures.genesis) c.loop-line.invariant.genesis;
  stands = c.in_ok-open_by.ensures.stands c.args.lines.now c.loop-line.line-index c.loop-line-test.true c.line-item.is c.loop-line.invariant.stands;
}
