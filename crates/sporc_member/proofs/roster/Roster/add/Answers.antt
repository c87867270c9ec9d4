use Rattle.std.proofs.Common.{◌≡◌, sym, ap, ◌∙◌, subst, map, ℕ, List, None}
use Rattle.sporc_member.proofs.Common.{insert, insert_by, Add, Device, KeyedDevice, Member, first_device, insert_device, IsSound, Roster, insert_sorted, change_fault_of, after_change, numbers_of, place_among, RosterModel, roster_in}
use Rattle.sporc_member.proofs.Places.{insert_sorted-place, numbers_of-insert_sorted}
use Rattle.sporc_member.proofs.Sound.{sound_after, used_place}
use Rattle.sporc_member.proofs.roster.Roster.add.Goals as goal

abbrev made : Roster → List Member → List ℕ → List KeyedDevice → List KeyedDevice → Roster
made r ms used ds ever = record { members = ms; used = used; devices = ds; ever = ever; upgraded = r.upgraded }

-- what stands once four lists were inserted into
same_parts : (r : Roster) (m : Member) (key : List ℕ) (ms : List Member) (used : List ℕ) (ds ever : List KeyedDevice)
    → ms ≡ insert_sorted m r.members → used ≡ insert_by (λ n. n) m.member r.used → ds ≡ insert_device (record { device = first_device m.member; key = key }) r.devices
    → ever ≡ insert_device (record { device = first_device m.member; key = key }) r.ever → made r ms used ds ever ≡ after_change r (Add m.member m.role key)
same_parts r m key ms used ds ever e f g h =
    let new : KeyedDevice = record { device = first_device m.member; key = key } in
    ap (λ (ms : List Member). made r ms used ds ever) e
    ∙ ap (λ (ns : List ℕ). made r (insert_sorted m r.members) ns ds ever) f
    ∙ ap (λ (ds : List KeyedDevice). made r (insert_sorted m r.members) (insert_by (λ n. n) m.member r.used) ds ever) g
    ∙ ap (made r (insert_sorted m r.members) (insert_by (λ n. n) m.member r.used) (insert_device new r.devices)) h

pub invariant_of-self : goal.invariant_of-self
invariant_of-self c =
    let r = roster_in c.self.inside in
    let m : Member = record { member = c.args.member; role = c.args.role } in
    let e : r ≡ c.args.self.now.roster = ap (λ (v : RosterModel). v.roster) c.self.view_is ∙ c.in_ok-reserve.ensures.unchanged in
    let accepted : change_fault_of r (Add m.member m.role c.args.key) ≡ None = ap (λ (r : Roster). change_fault_of r (Add m.member m.role c.args.key)) e ∙ c.requires.accepted in
    let place : c.place_of-place.result ≡ place_among m.member c.self.inside.numbers.items = c.place_of-place.ensures.value ∙ ap (place_among m.member) c.as_slice.ensures.value in
    let place-2 : c.place_of-place-2.result ≡ place_among m.member r.used = c.place_of-place-2.ensures.value ∙ ap (place_among m.member) c.as_slice-2.ensures.value in
    let members : c.insert_ready.new.items.items ≡ insert_sorted m r.members =
    c.insert_ready.ensures ∙ ap (λ (k : ℕ). insert r.members k m) place
    ∙ ap (λ (ns : List ℕ). insert r.members (place_among m.member ns) m) c.self.invariant.numbers ∙ sym (insert_sorted-place m r.members) in
    let used : c.insert_ready-3.new.items.items ≡ insert_by (λ n. n) m.member r.used =
    c.insert_ready-3.ensures ∙ ap (λ (k : ℕ). insert r.used k m.member) place-2 ∙ sym (used_place m.member r.used) in
    let devices : c.insert_live.new.devices.items ≡ insert_device (record { device = first_device m.member; key = c.args.key }) r.devices =
    c.insert_live.ensures.devices ∙ ap (λ (d : Device). insert_device (record { device = d; key = c.args.key }) r.devices) c.first.ensures.value in
    let ever : c.insert_device.new.devices.items ≡ insert_device (record { device = first_device m.member; key = c.args.key }) r.ever =
    c.insert_device.ensures ∙ ap (λ (d : Device). insert_device (record { device = d; key = c.args.key }) r.ever) c.first.ensures.value in
    record {
      sound = subst IsSound (sym (same_parts r m c.args.key _ _ _ _ members used devices ever)) (sound_after r (Add m.member m.role c.args.key) accepted c.self.invariant.sound);
      numbers = c.insert_ready-2.ensures ∙ ap (λ (k : ℕ). insert c.self.inside.numbers.items k m.member) place
          ∙ ap (λ (ns : List ℕ). insert ns (place_among m.member ns) m.member) c.self.invariant.numbers
          ∙ sym (numbers_of-insert_sorted m r.members) ∙ ap numbers_of (sym members);
      device_numbers = c.insert_live.ensures.numbers ∙ ap (map (λ d. d.device.number)) (sym c.insert_live.ensures.devices);
    }

pub returns-clause-ok : goal.returns-clause-ok
returns-clause-ok c =
    let r = roster_in c.self.inside in
    let m : Member = record { member = c.args.member; role = c.args.role } in
    let e : r ≡ c.args.self.now.roster = ap (λ (v : RosterModel). v.roster) c.self.view_is ∙ c.in_ok-reserve.ensures.unchanged in
    let place : c.place_of-place.result ≡ place_among m.member c.self.inside.numbers.items = c.place_of-place.ensures.value ∙ ap (place_among m.member) c.as_slice.ensures.value in
    let place-2 : c.place_of-place-2.result ≡ place_among m.member r.used = c.place_of-place-2.ensures.value ∙ ap (place_among m.member) c.as_slice-2.ensures.value in
    same_parts r m c.args.key _ _ _ _
    (c.insert_ready.ensures ∙ ap (λ (k : ℕ). insert r.members k m) place
    ∙ ap (λ (ns : List ℕ). insert r.members (place_among m.member ns) m) c.self.invariant.numbers ∙ sym (insert_sorted-place m r.members))
    (c.insert_ready-3.ensures ∙ ap (λ (k : ℕ). insert r.used k m.member) place-2 ∙ sym (used_place m.member r.used))
    (c.insert_live.ensures.devices ∙ ap (λ (d : Device). insert_device (record { device = d; key = c.args.key }) r.devices) c.first.ensures.value)
    (c.insert_device.ensures ∙ ap (λ (d : Device). insert_device (record { device = d; key = c.args.key }) r.ever) c.first.ensures.value)
    ∙ ap (λ (r : Roster). after_change r (Add m.member m.role c.args.key)) e
