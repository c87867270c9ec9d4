use Rattle.std.proofs.Common.{List, ap, sym, ◌∙◌, subst}
use Rattle.sporc_member.proofs.Common.{IsSound, Member, Roster, numbers_of, roster_in, with_role}
use Rattle.sporc_member.proofs.Places.{numbers_of-with_role}
use Rattle.sporc_member.proofs.Sound.{sound_role}
use Rattle.sporc_member.proofs.roster.Roster.set_role.Goals as goal

pub invariant_of-self : goal.invariant_of-self
invariant_of-self c =
    let r = roster_in c.self.inside in
    let made : List Member → Roster = λ ms. record r { members = ms } in
    record {
      sound = subst IsSound (ap made (sym c.give_role.ensures)) (sound_role r c.args.member c.args.role c.self.invariant.sound);
      numbers = c.self.invariant.numbers ∙ sym (numbers_of-with_role c.args.member c.args.role r.members) ∙ ap numbers_of (sym c.give_role.ensures);
      device_numbers = c.self.invariant.device_numbers;
    }
