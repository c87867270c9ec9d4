use Rattle.sporc_play.proofs.Common.{IsGenesis, scene_opened, StandsFor}
use Rattle.sporc_play.proofs.state.PlayState.open_founders.Given as goal

abbrev pub invariant-loop-line : goal.invariant-loop-line
invariant-loop-line l = record {
  genesis : IsGenesis l.self.genesis;
  -- the founders of the lines so far have their clients
  stands : StandsFor l.lines (scene_opened l.lines l.line-index) l.self;
}
