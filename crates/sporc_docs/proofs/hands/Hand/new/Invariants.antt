use Rattle.std.proofs.Common.{◌≡◌, ◌≤◌, None, replicate, vec_capacity}
use Rattle.sporc_docs.proofs.hands.Hand.new.Given as goal

abbrev pub invariant-loop : goal.invariant-loop
invariant-loop l = record {
  items : l.passes.items ≡ replicate l.counter None;
  room : l.len ≤ vec_capacity l.passes;
}
