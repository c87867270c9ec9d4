use Rattle.std.proofs.Common.{◌≡◌, ◌≤◌, None, length, replicate, vec_capacity}
use Rattle.sporc_docs.proofs.Common.{AllHands}
use Rattle.sporc_docs.proofs.hands.empty_hands.Given as goal

abbrev pub invariant-loop : goal.invariant-loop
invariant-loop l = record {
  count : length l.hands.items ≡ l.counter;
  room : l.sessions ≤ vec_capacity l.hands;
  empty : AllHands (λ passes. passes ≡ replicate l.len None) l.hands.items;
}
