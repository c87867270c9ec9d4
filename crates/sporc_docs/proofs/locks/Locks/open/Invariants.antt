use Rattle.std.proofs.Common.{◌≡◌, ◌≤◌, ◌+◌, ◌++◌, List, reverse, vec_len, vec_capacity}
use Rattle.sporc_docs.proofs.Common.{OrderModel, AreOpen, AreKept}
use Rattle.sporc_docs.proofs.locks.Locks.open.Given as goal

abbrev pub invariant-loop-order : goal.invariant-loop-order
invariant-loop-order g l = record {
  opened : (os : List OrderModel) × (l.initial.orders.items ≡ l.orders.items ++ reverse os) × AreOpen os l.self;
  kept : AreKept g.T.Tail.keeps l.tails.items l.orders.items;
  turns : vec_len l.self.turns + vec_len l.orders ≤ vec_capacity l.self.turns;
  documents : vec_len l.self.documents + vec_len l.orders ≤ vec_capacity l.self.documents;
  firsts : vec_len l.self.firsts + vec_len l.orders ≤ vec_capacity l.self.firsts;
  room : vec_capacity l.orders ≡ vec_capacity l.initial.orders;
  tails_room : vec_capacity l.tails ≡ vec_capacity l.initial.tails;
}

abbrev pub decreases-loop-order : goal.decreases-loop-order
decreases-loop-order g l = vec_len l.orders
