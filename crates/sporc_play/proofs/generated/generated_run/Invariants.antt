use Rattle.sporc_play.proofs.Common.{setup_of, batches, generated_cast, after_each, opening, StandsFor}
use Rattle.sporc_play.proofs.generated.generated_run.Given as goal

abbrev pub invariant-loop-k : goal.invariant-loop-k
invariant-loop-k l = StandsFor generated_cast (after_each (setup_of generated_cast) (opening generated_cast) (batches l.k)) l.state
