use Rattle.std.proofs.Common.{◌≡◌, List, map, ap, sym, ◌∙◌, subst, None}
use Rattle.sporc_member.proofs.Common.{AddDevice, IsSound, KeyedDevice, Roster, change_fault_of, insert_device, RosterModel, roster_in}
use Rattle.sporc_member.proofs.Sound.{sound_after}
use Rattle.sporc_member.proofs.roster.Roster.add_device.Goals as goal

pub invariant_of-self : goal.invariant_of-self
invariant_of-self c =
    let r = roster_in c.self.inside in
    let live : KeyedDevice = record { device = record { member = c.args.member; number = c.args.device }; key = c.args.key } in
    let made : List KeyedDevice → List KeyedDevice → Roster = λ ds ever. record r { devices = ds; ever = ever } in
    let e : r ≡ c.args.self.now.roster = ap (λ (v : RosterModel). v.roster) c.self.view_is ∙ c.in_ok-reserve.ensures.unchanged in
    let accepted : change_fault_of r (AddDevice c.args.member c.args.device c.args.key) ≡ None = ap (λ (r : Roster). change_fault_of r (AddDevice c.args.member c.args.device c.args.key)) e ∙ c.requires.accepted in
    record {
      sound = subst IsSound
          (ap (λ (ds : List KeyedDevice). made ds (insert_device live r.ever)) (sym c.insert_live.ensures.devices)
          ∙ ap (made c.insert_live.new.devices.items) (sym c.insert_device.ensures))
          (sound_after r (AddDevice c.args.member c.args.device c.args.key) accepted c.self.invariant.sound);
      numbers = c.self.invariant.numbers;
      device_numbers = c.insert_live.ensures.numbers ∙ ap (map (λ d. d.device.number)) (sym c.insert_live.ensures.devices);
    }
