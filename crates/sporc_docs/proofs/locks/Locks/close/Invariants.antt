use Rattle.std.proofs.Common.{◌≡◌, ◌≤◌, ◌+◌, ◌++◌, List, Option, reverse, vec_len, vec_capacity}
use Rattle.sporc_docs.proofs.Common.{Pass, OrderModel, Item, AllZip, HasFirst, AreBack, Closes, AreKept}
use Rattle.sporc_docs.proofs.locks.Locks.close.Given as goal

abbrev pub invariant-loop-turn : goal.invariant-loop-turn
invariant-loop-turn g l = record {
  first : AllZip HasFirst l.turns.items l.firsts.items;
  back : AreBack l.firsts.items;
  closed : (done : List (Option (Pass Item))) × (os : List OrderModel) × (l.fn.self.firsts.items ≡ l.firsts.items ++ done)
      × (l.orders.items ≡ l.initial.orders.items ++ reverse os) × AllZip Closes done os;
  kept : AreKept g.T.Tail.keeps l.tails.items l.orders.items;
  room : vec_len l.orders + vec_len l.turns ≤ vec_capacity l.orders;
  tails_room : vec_len l.tails + vec_len l.turns ≤ vec_capacity l.tails;
}

abbrev pub decreases-loop-turn : goal.decreases-loop-turn
decreases-loop-turn g l = vec_len l.turns
