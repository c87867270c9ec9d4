use Rattle.std.proofs.Common.{◌+◌, flat_map, map}
use Rattle.sporc_play.proofs.Common.{Performs, up_to, gives}
use Rattle.sporc_play.proofs.generated.accept_all.Given as goal

abbrev pub invariant-loop-a : goal.invariant-loop-a
invariant-loop-a l = Performs l.initial.state (flat_map (λ a. map (gives (l.done + a)) (up_to 3)) (up_to l.a)) l.state
