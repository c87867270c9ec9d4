-- Setups of runs as they can be.
use Rattle.std.specs.Prelude.{◌≡◌, ◌<◌, ◌^◌, length, Contains}
use Rattle.sporc_member.specs.declared.device.Device.{Device}
use Rattle.sporc_entry.specs.Genesis.{IsGenesis}
use Rattle.sporc_client.specs.Run.{Setup}

-- the genesis is one that a document can begin with, the numbers of the devices and of their
-- members fit their fields, and the identifiers of their private keys have 16 bytes
pub record IsWellFormed (s : Setup) : Type 0 where
  pub genesis : IsGenesis s.genesis
  pub devices : (who : Device) → Contains s.devices who
      → (who.member < 2 ^ 16) × (who.number < 2 ^ 8)
  pub identifiers : (who : Device) → Contains s.devices who → length (s.private who).id ≡ 16
