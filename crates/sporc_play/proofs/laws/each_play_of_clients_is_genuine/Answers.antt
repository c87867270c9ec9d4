use Rattle.sporc_play.proofs.ClosedPlays.{own_play}
use Rattle.sporc_play.proofs.laws.each_play_of_clients_is_genuine.Goals as goal

pub returns : goal.returns
returns c = record { genuine = own_play }
