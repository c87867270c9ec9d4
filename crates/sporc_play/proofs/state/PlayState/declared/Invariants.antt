use Rattle.std.proofs.Common.{take}
use Rattle.sporc_play.proofs.Common.{tree_of, HaveDeclared}
use Rattle.sporc_play.proofs.state.PlayState.declared.Given as goal

abbrev pub invariant-loop-line : goal.invariant-loop-line
invariant-loop-line l = HaveDeclared (tree_of l.lines) (take l.line-index l.lines) l.cast l.seats.items l.rogues.items
