use Rattle.std.proofs.Common.{◌≡◌, ◌+◌, ◌-◌, ℕ, false, is_some, List, length, take, drop, arith, ap, sym, ◌∙◌}
use Rattle.sporc_member.proofs.Common.{length-map, KeyedDevice, place_from, devices_of, member_at, RosterModel, roster_in}
use Rattle.sporc_member.proofs.Grouped.{place_from-le, place_from-mono, numbers_here}
use Rattle.sporc_member.proofs.Belonging.{no_devices}
use Rattle.sporc_member.proofs.Sound.{live_in_order}
use Rattle.sporc_member.proofs.roster.Roster.devices.Goals as goal

pub slice_bounds-result-count : goal.slice_bounds-result-count
slice_bounds-result-count c = omega (
  arith,
  c.place_from-first.ensures.value,
  c.place_from-end.ensures.value,
  place_from-mono c.from.result (c.from-2.result + 1) c.as_slice-devices.result.now (omega (arith, c.from.ensures, c.from-2.ensures)),
)

pub slice_bounds-result-start : goal.slice_bounds-result-start
slice_bounds-result-start c = omega (
  arith,
  c.place_from-first.ensures.value,
  c.place_from-end.ensures.value,
  place_from-mono c.from.result (c.from-2.result + 1) c.as_slice-devices.result.now (omega (arith, c.from.ensures, c.from-2.ensures)),
)

pub slice_bounds-result-end : goal.slice_bounds-result-end
slice_bounds-result-end c =
    let i = c.self.inside in
    let number : KeyedDevice → ℕ = λ d. d.device.number in
    let numbers : length c.deref.result.now ≡ length i.devices.items = ap length (c.deref.ensures.value ∙ c.self.invariant.device_numbers) ∙ length-map i.devices.items number in
    let devices : length c.as_slice-devices.result.now ≡ length i.devices.items = ap length c.as_slice-devices.ensures.value in
    omega (arith, numbers, devices, c.place_from-end.ensures.value, place_from-le (c.from-2.result + 1) c.as_slice-devices.result.now)

pub returns-clause-value : goal.returns-clause-value
returns-clause-value c =
    let i = c.self.inside in
    let me = c.args.member in
    let first : c.place_from-first.result ≡ place_from me i.devices.items =
    c.place_from-first.ensures.value ∙ ap (λ (k : ℕ). place_from k c.as_slice-devices.result.now) c.from.ensures ∙ ap (place_from me) c.as_slice-devices.ensures.value in
    let end : c.place_from-end.result ≡ place_from (me + 1) i.devices.items =
    c.place_from-end.ensures.value ∙ ap (λ (k : ℕ). place_from (k + 1) c.as_slice-devices.result.now) c.from-2.ensures ∙ ap (place_from (me + 1)) c.as_slice-devices.ensures.value in
    ap (λ (ns : List ℕ). take (c.place_from-end.result - c.place_from-first.result) (drop c.place_from-first.result ns)) c.deref.ensures.value
    ∙ ap (λ (k : ℕ). take (c.place_from-end.result - k) (drop k i.device_numbers.items)) first
    ∙ ap (λ (k : ℕ). take (k - place_from me i.devices.items) (drop (place_from me i.devices.items) i.device_numbers.items)) end
    ∙ numbers_here me (me + 1) i.devices.items i.device_numbers.items (omega arith) (live_in_order (roster_in i) c.self.invariant.sound) c.self.invariant.device_numbers
    ∙ ap (λ (m : RosterModel). devices_of m.roster me) c.self.view_is

pub returns-clause-none : goal.returns-clause-none
returns-clause-none c other =
    let gone : is_some (member_at (roster_in c.self.inside) c.args.member) ≡ false = ap (λ (m : RosterModel). is_some (member_at m.roster c.args.member)) c.self.view_is ∙ other in
    returns-clause-value c ∙ ap (λ (m : RosterModel). devices_of m.roster c.args.member) (sym c.self.view_is)
    ∙ no_devices c.self.inside.members.items c.self.inside.devices.items c.args.member c.self.invariant.sound.belong gone
