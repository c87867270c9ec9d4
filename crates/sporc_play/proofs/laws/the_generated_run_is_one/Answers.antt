use Rattle.sporc_play.proofs.GeneratedRun.{generated_one, generated_typed, generated_genuine}
use Rattle.sporc_play.proofs.laws.the_generated_run_is_one.Goals as goal

pub returns : goal.returns
returns c = record { run = generated_one; typed = generated_typed; genuine = generated_genuine }
