use Rattle.std.proofs.Common.{map}
use Rattle.sporc_play.proofs.Common.{Performs, up_to, submits}
use Rattle.sporc_play.proofs.generated.submit_all.Given as goal

abbrev pub invariant-loop-a : goal.invariant-loop-a
invariant-loop-a l = Performs l.initial.state (map submits (up_to l.a)) l.state
