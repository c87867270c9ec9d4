use Rattle.sporc_screen.proofs.Following.{Composing}
use Rattle.sporc_screen.proofs.lines.composed.Given as goal

abbrev pub invariant-loop-line : goal.invariant-loop-line
invariant-loop-line l = Composing l.all l.line-index l.lines l.len
