use Rattle.std.proofs.Common.{◌≡◌, ap, sym, ◌∙◌, true, is_some}
use Rattle.sporc_member.proofs.Common.{Device, key_of, member_at, RosterModel, roster_in}
use Rattle.sporc_member.proofs.Belonging.{live_member}
use Rattle.sporc_member.proofs.roster.Roster.key.Goals as goal

pub returns-clause-member : goal.returns-clause-member
returns-clause-member c h =
    let d : Device = record { member = c.args.member; number = c.args.device } in
    let has : is_some (key_of (roster_in c.self.inside) d) ≡ true = ap (λ (m : RosterModel). is_some (key_of m.roster d)) c.self.view_is ∙ h in
    ap (λ (m : RosterModel). is_some (member_at m.roster c.args.member)) (sym c.self.view_is) ∙ live_member c.self.inside.members.items c.self.inside.devices.items d c.self.invariant.sound.belong has
