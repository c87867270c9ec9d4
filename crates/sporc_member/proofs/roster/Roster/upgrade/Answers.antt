use Rattle.sporc_member.proofs.Common.{roster_in}
use Rattle.sporc_member.proofs.Sound.{sound_upgrade}
use Rattle.sporc_member.proofs.roster.Roster.upgrade.Goals as goal

pub invariant_of-self : goal.invariant_of-self
invariant_of-self c = record {
  sound = sound_upgrade (roster_in c.self.inside) c.self.invariant.sound;
  numbers = c.self.invariant.numbers;
  device_numbers = c.self.invariant.device_numbers;
}
