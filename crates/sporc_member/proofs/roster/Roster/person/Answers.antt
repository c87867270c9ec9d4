use Rattle.std.proofs.Common.{◌≡◌, ◌==◌, List, ap, filter, map, sym, subst, ◌∙◌}
use Rattle.sporc_member.proofs.Common.{AreInOrder, KeyedDevice, Roster, RosterModel, roster_in}
use Rattle.sporc_member.proofs.Sound.{live_in_order}
use Rattle.sporc_member.proofs.PeopleOf.{owned_by, owned_same}
use Rattle.sporc_member.specs.declared.people.Owned.{Owned}
use Rattle.sporc_member.specs.declared.people.Person.{Person}
use Rattle.sporc_member.specs.People.{owned_of}
use Rattle.sporc_member.proofs.roster.Roster.person.Goals as goal

pub devices_with-live-requires : goal.devices_with-live-requires
devices_with-live-requires c = record { order = subst AreInOrder (sym c.as_slice-2.ensures.value) (live_in_order (roster_in c.self.inside) c.self.invariant.sound) }

pub returns : goal.returns
returns c =
    let r = roster_in c.self.inside in
    let n = c.args.number in
    let same : r ≡ c.args.self.now.roster = ap (λ (v : RosterModel). v.roster) c.self.view_is in
    let ever : c.devices_with-ever.result.now ≡ filter (λ d. d.device.member == n) r.ever =
    c.devices_with-ever.ensures ∙ ap (filter (λ d. d.device.member == n)) c.as_slice.ensures.value in
    let live : c.devices_with-live.result.now ≡ filter (λ d. d.device.member == n) r.devices =
    c.devices_with-live.ensures ∙ ap (filter (λ d. d.device.member == n)) c.as_slice-2.ensures.value in
    let owned : c.new.result ≡ map (owned_of c.args.self.now.roster) (filter (λ d. d.device.member == n) c.args.self.now.roster.ever) =
    c.new.ensures.value ∙ c.in_ok-devices.ensures
    ∙ ap (λ (ds : List KeyedDevice). map (owned_by c.devices_with-live.result.now) ds) ever
    ∙ ap (λ (ds : List KeyedDevice). map (owned_by ds) (filter (λ d. d.device.member == n) r.ever)) live
    ∙ owned_same r n r.ever
    ∙ ap (λ (r : Roster). map (owned_of r) (filter (λ d. d.device.member == n) r.ever)) same in
    ap (λ (os : List Owned). let p : Person = record { member = n; role = c.role.result; devices = os } in p) owned
    ∙ ap (λ o. let p : Person = record { member = n; role = o; devices = map (owned_of c.args.self.now.roster) (filter (λ d. d.device.member == n) c.args.self.now.roster.ever) } in p) c.role.ensures.value
