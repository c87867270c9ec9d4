use Rattle.std.proofs.Common.{◌≡◌, ℕ, false, List, map, ap, sym, ◌∙◌, subst}
use Rattle.sporc_member.proofs.Common.{Founder, IsSound, KeyedDevice, Member, Roster, device_by, founded, founder_numbers, member_by, numbers_of}
use Rattle.sporc_member.proofs.Keeping.{numbers_of-founders}
use Rattle.sporc_member.proofs.Sound.{sound_founders}
use Rattle.sporc_member.proofs.roster.Roster.found.Goals as goal

abbrev made : List Member → List ℕ → List KeyedDevice → List KeyedDevice → Roster
made ms used ds ever = record { members = ms; used = used; devices = ds; ever = ever; upgraded = false }

same_parts : (fs : List Founder) (ms : List Member) (used : List ℕ) (ds ever : List KeyedDevice) → ms ≡ map member_by fs → used ≡ founder_numbers fs → ds ≡ map device_by fs → ever ≡ map device_by fs
    → made ms used ds ever ≡ founded fs
same_parts fs ms used ds ever e f g h =
    ap (λ (ms : List Member). made ms used ds ever) e
    ∙ ap (λ (ns : List ℕ). made (map member_by fs) ns ds ever) f
    ∙ ap (λ (ds : List KeyedDevice). made (map member_by fs) (founder_numbers fs) ds ever) g
    ∙ ap (made (map member_by fs) (founder_numbers fs) (map device_by fs)) h

pub invariant_of-result : goal.invariant_of-result
invariant_of-result c =
    let fs = c.args.founders.now in
    record {
      sound = subst IsSound (sym (same_parts fs _ _ _ _ c.in_ok-members.ensures
          (c.in_ok-used.ensures ∙ ap numbers_of (c.as_slice-2.ensures.value ∙ c.in_ok-members.ensures) ∙ numbers_of-founders fs)
          c.in_ok-devices.ensures c.in_ok-ever.ensures)) (sound_founders fs c.requires.ascending c.requires.limit);
      numbers = c.in_ok-numbers.ensures ∙ ap numbers_of c.as_slice.ensures.value;
      device_numbers = c.in_ok-device_numbers.ensures ∙ ap (map (λ d. d.device.number)) c.as_slice-3.ensures.value;
    }

pub returns : goal.returns
returns c = record {
  ok = same_parts c.args.founders.now _ _ _ _ c.in_ok-members.ensures
      (c.in_ok-used.ensures ∙ ap numbers_of (c.as_slice-2.ensures.value ∙ c.in_ok-members.ensures) ∙ numbers_of-founders c.args.founders.now)
      c.in_ok-devices.ensures c.in_ok-ever.ensures;
}
