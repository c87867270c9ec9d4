-- What a device of a member was given.
use Rattle.sporc_member.specs.declared.device.Device.{Device}
use Rattle.sporc_epoch.specs.Keys.{Keys}

-- which device it is, keys of epochs (of epoch 0, or a joiner's hints), those shared with members
pub record Kit : Type 0 where
  pub me : Device
  pub ring : Keys
  pub pairs : Keys

abbrev pub kit_of : Device → Keys → Keys → Kit
kit_of me ring pairs = record { me = me; ring = ring; pairs = pairs }
