use Rattle.sporc_client.proofs.SoundRuns.{sound_at}
use Rattle.sporc_client.proofs.laws.clients_stay_sound.Goals as goal

pub returns : goal.returns
returns c = record { sound = sound_at }
