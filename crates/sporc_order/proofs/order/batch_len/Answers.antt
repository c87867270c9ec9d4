use Rattle.std.proofs.Common.{rules, ◌≡◌, ◌+◌, ◌-◌, ◌++◌, List, ℕ, true, false, ltb, leb, length, map, drop, take, sym, subst, arith}
use Rattle.sporc_order.proofs.Common.{◌&&◌, MAX_PULLED, MAX_PULLED_BYTES, longest_batch}
use Rattle.sporc_order.proofs.Batches.{bytes_of, from_place, goes_on, ends, has_room}
use Rattle.sporc_order.proofs.order.batch_len.Goals as goal

pub returns-then-not-has_room-clause-value : goal.returns-then-not-has_room-clause-value
returns-then-not-has_room-clause-value c =
    let L : List (List ℕ) = map bytes_of c.args.entries.now in
    let at = from_place c.args.entries.now c.loop-i.i c.index-entries-i.result c.loop-i-test.true c.index-entries-i.is in
    let size : c.len.result ≡ length c.index-entries-i.result.items = omega (arith, c.len.ensures) in
    let none : (ltb c.loop-i.i MAX_PULLED && leb (c.len.result + 4) c.loop-i.room) ≡ false = search rules in
    ends L c.loop-i.i c.loop-i.room c.index-entries-i.result.items (longest_batch MAX_PULLED MAX_PULLED_BYTES L) at c.loop-i.invariant.0
    (subst (λ (n : ℕ). (ltb c.loop-i.i MAX_PULLED && leb (n + 4) c.loop-i.room) ≡ false) size none) c.loop-i.invariant.1

pub loop-i-preserved : goal.loop-i-preserved
loop-i-preserved c =
    let L : List (List ℕ) = map bytes_of c.args.entries.now in
    let at = from_place c.args.entries.now c.loop-i.i c.index-entries-i.result c.loop-i-test.true c.index-entries-i.is in
    let size : c.len.result ≡ length c.index-entries-i.result.items = omega (arith, c.len.ensures) in
    let again : c.len-in-loop-i.result ≡ length c.index-entries-i.result.items = omega (arith, c.len-in-loop-i.ensures) in
    let has : (ltb c.loop-i.i MAX_PULLED && leb (c.len.result + 4) c.loop-i.room) ≡ true = search rules in
    let p = has_room c.loop-i.i c.loop-i.room c.len.result has in
    let on = goes_on L c.loop-i.i c.loop-i.room c.index-entries-i.result.items (longest_batch MAX_PULLED MAX_PULLED_BYTES L) at
    (subst (λ (n : ℕ). (ltb c.loop-i.i MAX_PULLED && leb (n + 4) c.loop-i.room) ≡ true) size has) c.loop-i.invariant.1 in
    (omega (arith, p.0), subst (λ (n : ℕ). longest_batch MAX_PULLED MAX_PULLED_BYTES L ≡ take (c.loop-i.i + 1) L ++ longest_batch (MAX_PULLED - (c.loop-i.i + 1)) (c.loop-i.room - (n + 4)) (drop (c.loop-i.i + 1) L)) (sym again) on)
