use Rattle.std.proofs.Common.{ℕ, List, map, filter, ap, sym, not, ◌==◌, ◌∙◌, subst}
use Rattle.sporc_member.proofs.Common.{IsSound, KeyedDevice, Member, Roster, numbers_of, roster_in}
use Rattle.sporc_member.proofs.Places.{numbers_of-filter}
use Rattle.sporc_member.proofs.Sound.{sound_remove}
use Rattle.sporc_member.proofs.roster.Roster.remove.Goals as goal

pub invariant_of-self : goal.invariant_of-self
invariant_of-self c =
    let r = roster_in c.self.inside in
    let n = c.args.member in
    let made : List Member → List KeyedDevice → Roster = λ ms ds. record r { members = ms; devices = ds } in
    record {
      sound = subst IsSound
          (ap (λ (ms : List Member). made ms (filter (λ d. not (d.device.member == n)) r.devices)) (sym c.take_out_member.ensures)
          ∙ ap (made c.take_out_member.new.members.items) (sym c.take_out_devices_of.ensures.value))
          (sound_remove r n c.self.invariant.sound);
      numbers = c.take_out_number.ensures ∙ ap (filter (λ (m : ℕ). not (m == n))) c.self.invariant.numbers ∙ sym (numbers_of-filter n r.members)
          ∙ ap numbers_of (sym c.take_out_member.ensures);
      device_numbers = c.renumber.ensures ∙ ap (map (λ d. d.device.number)) c.as_slice.ensures.value;
    }
