use Rattle.std.proofs.Common.{List, map, ap, sym, not, ◌∙◌, subst}
use Rattle.sporc_member.proofs.Common.{Device, IsSound, KeyedDevice, Roster, roster_in, same_device}
use Rattle.sporc_member.proofs.Sound.{sound_drop}
use Rattle.sporc_member.proofs.roster.Roster.drop_device.Goals as goal

pub invariant_of-self : goal.invariant_of-self
invariant_of-self c =
    let r = roster_in c.self.inside in
    let device : Device = record { member = c.args.member; number = c.args.device } in
    let made : List KeyedDevice → Roster = λ ds. record r { devices = ds } in
    record {
      sound = subst IsSound (ap made (sym c.take_out_device.ensures.value)) (sound_drop r (λ d. not (same_device d device)) c.self.invariant.sound);
      numbers = c.self.invariant.numbers;
      device_numbers = c.renumber.ensures ∙ ap (map (λ d. d.device.number)) c.as_slice.ensures.value;
    }
