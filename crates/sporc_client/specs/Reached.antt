-- Clients as their own calls lead to them.
use Rattle.std.specs.Prelude.{◌≡◌, true, List, Contains}
use Rattle.sporc_member.specs.declared.device.Device.{Device}
use Rattle.sporc_epoch.specs.Keys.{Keys}
use Rattle.sporc_line.specs.Good.{Good}
use Rattle.sporc_client.specs.Log.{Logged}
use Rattle.sporc_client.specs.PlainClient.{PlainClient}
use Rattle.sporc_client.specs.Step.{replay}
use Rattle.sporc_client.specs.Allowed.{is_allowed}
use Rattle.sporc_client.specs.Run.{Setup, opening_of}

-- a client that a device of a run opened: its history is good, and its state is the replay of a log
-- that it allows
pub record IsReached (s : Setup) (who : Device) (c : PlainClient) : Type 0 where
  pub is_device : Contains s.devices who
  pub ring : Keys
  pub opening : c.opening ≡ opening_of s who ring
  pub good : Good c.opening.genesis c.opening.kit c.entries
  pub log : List Logged
  pub allowed : is_allowed c.opening log ≡ true
  pub state : c ≡ replay c.opening log
