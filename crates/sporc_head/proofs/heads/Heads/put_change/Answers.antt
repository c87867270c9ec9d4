use Rattle.std.proofs.Common.{◌≡◌, ◌<◌, ◌≤◌, ◌∷◌, ◌++◌, [], ◌+◌, ℕ, List, eqb, length, map, ap, sym, ◌∙◌, refl, arith}
use Rattle.sporc_head.proofs.Common.{Vec, map_push, length-map, next_value, Change, Roster, after_change, change_fault_of, nat_eq, cond, Some, get, Device, same_device, author_device, MAX_ENTRIES}
use Rattle.sporc_head.proofs.Common.{DEVICE_NUMBERS, hash_of, roster_of, rank_of, tally_in, with_removal, HeadsModel, entries_in}
use Rattle.sporc_head.proofs.Grows.{count_le, epoch_le}
use Rattle.sporc_head.proofs.Keeping.{keeps_change}
use Rattle.sporc_head.proofs.OnceChecked.{ok_of, checked_room, checked_by, checked_change, checked_accepted}
use Rattle.sporc_head.proofs.heads.Heads.put_change.Goals as goal

pub record_entry-requires : goal.record_entry-requires
record_entry-requires c =
    let d : Device = c.author_device.result in
    let small : d.number < DEVICE_NUMBERS = omega (arith, ap (λ (d : Device). d.number) c.author_device.ensures.value) in
    record {
      room = omega (arith, c.requires.room, ap (λ (m : HeadsModel). m.spare) c.self.view_is);
      limit = omega (arith, c.self.invariant.tables.count d small, count_le d (entries_in c.self.inside), c.self.invariant.room);
    }

pub record_removal-requires : goal.record_removal-requires
record_removal-requires c = omega (arith, c.requires.room, ap (λ (m : HeadsModel). m.spare) c.self.view_is)

pub overflow_add-self : goal.overflow_add-self
overflow_add-self c = omega (arith, c.self.invariant.changes, epoch_le (entries_in c.self.inside), c.self.invariant.room)

pub make-requires : goal.make-requires
make-requires c = record {
  accepted = ap (λ (r : Roster). change_fault_of r c.args.change) (c.self.invariant.members ∙ ap (λ (m : HeadsModel). roster_of m.genesis m.entries) c.self.view_is)
      ∙ checked_accepted c.args.self.now.genesis c.args.self.now.entries c.args.checked c.args.change c.requires.checked c.requires.change;
}

pub invariant_of-self : goal.invariant_of-self
invariant_of-self c =
    let before = c.args.self.now in
    let checked = c.args.checked in
    let entries : List (List ℕ) = entries_in c.self.inside in
    let items : Vec ℕ → List ℕ = λ v. v.items in
    let now : entries ≡ before.entries = ap (λ (m : HeadsModel). m.entries) c.self.view_is in
    let size : c.len.result ≡ length entries = omega (arith, c.len.ensures, length-map c.self.inside.entries.items items) in
    let grown : map items c.push_reserved-2.new.self.items ≡ entries ++ checked.bytes ∷ [] =
    ap (map items) c.push_reserved-2.ensures.items ∙ map_push items c.self.inside.entries.items c.into_vec.result ∙ ap (λ (b : List ℕ). entries ++ b ∷ []) (c.into_vec.ensures.value ∙ c.into_bytes.ensures) in
    let signed : c.author_device.result ≡ author_device checked.entry.header = c.author_device.ensures.value ∙ ap author_device c.header.ensures.value in
    let small : c.author_device.result.number < DEVICE_NUMBERS = omega (arith, ap (λ (d : Device). d.number) c.author_device.ensures.value) in
    let put : (q : ℕ) → get nat_eq c.record_entry.new.tallies q ≡ cond (eqb (rank_of c.author_device.result) q)
    (Some (record { count = (tally_in (get nat_eq c.self.inside.tables.tallies) c.author_device.result).count + 1; last = length entries + 1 })) (get nat_eq c.self.inside.tables.tallies q) =
    λ q. c.record_entry.ensures q
    ∙ ap (λ (n : ℕ). cond (eqb (rank_of c.author_device.result) q)
    (Some (record { count = (tally_in (get nat_eq c.self.inside.tables.tallies) c.author_device.result).count + 1; last = n + 1 })) (get nat_eq c.self.inside.tables.tallies q)) size in
    let room : length before.entries < MAX_ENTRIES = checked_room before.genesis before.entries checked c.requires.checked in
    let s = checked_change before.genesis before.entries checked c.args.change c.requires.checked c.requires.change in
    let spare : 1 ≤ c.self.inside.roster.spare = omega (arith, c.requires.room, ap (λ (m : HeadsModel). m.spare) c.self.view_is) in
    let made = ok_of c.make.result _ c.make.ensures.ok (c.make.ensures.ready spare) in
    keeps_change c.self.inside.genesis entries c.self.inside.hashes.items c.self.inside.roster.roster c.self.inside.barrier c.self.inside.epoch
    (get nat_eq c.self.inside.tables.tallies) c.self.inside.tables.removals.items checked.bytes c.hash.result.now c.author_device.result s.0 _ _ _ _ _ (get nat_eq c.record_entry.new.tallies) _
    c.self.invariant (omega (arith, room, ap length now)) c.requires.checked.sized small
    (λ d. checked_by before.genesis before.entries checked c.requires.checked d ∙ ap (λ (x : Device). same_device x d) (sym signed)) s.1
    (c.hash.ensures.value ∙ c.requires.checked.hash ∙ ap (λ (m : HeadsModel). next_value (hash_of m.genesis m.entries) checked.bytes) (sym c.self.view_is))
    grown c.push_reserved.ensures.items
    (made ∙ ap (after_change c.self.inside.roster.roster) (sym s.2))
    (ap (λ (n : ℕ). n + 1) size) refl put
    (c.record_removal.ensures ∙ ap (λ (x : Change). with_removal x c.self.inside.tables.removals.items) (sym s.2))
