use Rattle.sporc_play.proofs.ClosedPlays.{one_run, typed_run}
use Rattle.sporc_play.proofs.laws.each_play_is_one_run.Goals as goal

pub returns : goal.returns
returns c = record { run = one_run; typed = typed_run }
