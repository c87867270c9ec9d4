-- When no one forges a summary: one under a key of a run is what a client with that key makes.
use Rattle.std.specs.Prelude.{◌≡◌, ℕ, List, Some, Contains}
use Rattle.sporc_member.specs.declared.device.Device.{Device}
use Rattle.sporc_client.specs.PlainClient.{PlainClient}
use Rattle.sporc_client.specs.Run.{Setup, Move, IsAt, key_of_device}
use Rattle.sporc_evidence.specs.Evidence.{founder_key}
use Rattle.sporc_evidence.specs.Summary.{SummaryModel, summary_of}

-- the summary is under the key of this device of the run, and a client with that key made it, of
-- the history that it held at some moment
pub record IsGenuine (s : Setup) (moves : List Move) (owner : Device)
    (x : SummaryModel) : Type 0 where
  pub of_run : Contains s.devices owner
  pub under : founder_key s.genesis x.author x.device ≡ Some (key_of_device s owner)
  pub who : Device
  pub key : key_of_device s who ≡ key_of_device s owner
  pub moment : ℕ
  pub client : PlainClient
  pub at : IsAt s moves moment who client
  pub summary : x ≡ summary_of s.genesis client.entries x.author x.device
