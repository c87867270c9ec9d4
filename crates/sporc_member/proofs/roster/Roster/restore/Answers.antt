use Rattle.std.proofs.Common.{◌≡◌, ℕ, Bool, List, map, ap, sym, ◌∙◌, subst}
use Rattle.std.specs.List.{filter_map, flat_map}
use Rattle.sporc_member.proofs.Common.{IsSound, KeyedDevice, Member, Roster, numbers_of}
use Rattle.sporc_member.specs.declared.people.Person.{Person}
use Rattle.sporc_member.specs.People.{ever_of, live_of, member_in, roster_of_people}
use Rattle.sporc_member.proofs.PeopleOf.{sound_people}
use Rattle.sporc_member.proofs.roster.Roster.restore.Goals as goal

abbrev made : Bool → List Member → List ℕ → List KeyedDevice → List KeyedDevice → Roster
made upgraded ms used ds ever = record { members = ms; used = used; devices = ds; ever = ever; upgraded = upgraded }

same_parts : (ps : List Person) (up : Bool) (ms : List Member) (used : List ℕ) (ds ever : List KeyedDevice) → ms ≡ filter_map member_in ps → used ≡ map (λ p. p.member) ps
    → ds ≡ flat_map live_of ps → ever ≡ flat_map ever_of ps → made up ms used ds ever ≡ roster_of_people ps up
same_parts ps up ms used ds ever e f g h =
    ap (λ (ms : List Member). made up ms used ds ever) e
    ∙ ap (λ (ns : List ℕ). made up (filter_map member_in ps) ns ds ever) f
    ∙ ap (λ (ds : List KeyedDevice). made up (filter_map member_in ps) (map (λ p. p.member) ps) ds ever) g
    ∙ ap (made up (filter_map member_in ps) (map (λ p. p.member) ps) (flat_map live_of ps)) h

pub invariant_of-result : goal.invariant_of-result
invariant_of-result c =
    let ps = c.args.people.now in
    record {
      sound = subst IsSound (sym (same_parts ps c.args.upgraded _ _ _ _ c.in_ok-members.ensures c.in_ok-used.ensures c.in_ok-devices.ensures c.in_ok-ever.ensures))
          (sound_people ps c.args.upgraded c.requires.possible);
      numbers = c.in_ok-numbers.ensures ∙ ap numbers_of c.as_slice.ensures.value;
      device_numbers = c.in_ok-device_numbers.ensures ∙ ap (map (λ d. d.device.number)) c.as_slice-2.ensures.value;
    }

pub returns : goal.returns
returns c = record {
  ok = same_parts c.args.people.now c.args.upgraded _ _ _ _ c.in_ok-members.ensures c.in_ok-used.ensures c.in_ok-devices.ensures c.in_ok-ever.ensures;
}
