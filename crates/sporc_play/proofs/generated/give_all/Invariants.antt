use Rattle.std.proofs.Common.{map}
use Rattle.sporc_play.proofs.Common.{Performs, up_to, gives}
use Rattle.sporc_play.proofs.generated.give_all.Given as goal

abbrev pub invariant-loop-m : goal.invariant-loop-m
invariant-loop-m l = Performs l.initial.state (map (gives l.number) (up_to l.m)) l.state
