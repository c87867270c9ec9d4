use Rattle.std.proofs.Common.{◌+◌, length}
use Rattle.sporc_xform.proofs.Common.{compose}
use Rattle.sporc_xform.proofs.Composing.{Composed}
use Rattle.sporc_xform.proofs.composition.compose.Given as goal

abbrev pub invariant-chunks : goal.invariant-chunks
invariant-chunks l = Composed l.delta (compose l.row.first l.row.second) (compose l.fn.p1 l.fn.p2)

abbrev pub decreases-chunks : goal.decreases-chunks
decreases-chunks l = length l.row.first + length l.row.second
