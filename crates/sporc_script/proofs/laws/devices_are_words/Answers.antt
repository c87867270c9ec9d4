use Rattle.sporc_script.proofs.DeviceWords.{device_exact}
use Rattle.sporc_script.proofs.laws.devices_are_words.Goals as goal

pub returns : goal.returns
returns c = record { read_again = device_exact.complete; written_so = device_exact.sound }
