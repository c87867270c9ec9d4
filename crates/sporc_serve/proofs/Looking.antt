-- A turn after one that was taken to look at the log.
use Rattle.std.proofs.Common.{ℕ, Bool, List, [], ◌++◌, Result, Ok, Err, ap, subst, ◌∙◌, append-nil}
use Rattle.sporc_serve.proofs.Common.{Genesis, ToServer, Reply, Known, StartsWith, SessionEnd, Item, order_at, placed_by, added_of, IsLogOf, OfDocument, SeesAndAdds, Looks, TakesTurn}
use Rattle.sporc_serve.proofs.Turning.{starts_log}
use Rattle.sporc_serve.proofs.Tracing.{starts_then}

module _ (g : Genesis) (k k' k'' : Known Item) {A : Type 0} (look : Result A SessionEnd) (looks : Looks k k' look) where
  later_seen : StartsWith k'.seen k.seen
  later_seen = starts_then k.seen looks.0 k'.seen looks.1.begins ([], looks.1.seen)

  adds_later : (found items : List Item) → SeesAndAdds k' k'' found items → SeesAndAdds k k'' found items
  adds_later found items adds = record {
    begins = starts_then k.seen k'.seen found later_seen adds.begins;
    seen = adds.seen;
    mine = adds.mine ∙ ap (λ (l : List Item). l ++ items) (looks.1.mine ∙ append-nil k.mine);
    number = adds.number ∙ looks.1.number;
    start = adds.start ∙ looks.1.start;
  }

  -- a turn after the look is a turn
  turn_later : (s s' : Bool) (m : ToServer) (r : Result Reply SessionEnd) → TakesTurn g k' k'' s s' m r → TakesTurn g k k'' s s' m r
  turn_later s s' m (Ok reply) turn =
      let found = turn.1 in
      let entries = added_of (order_at g found) s m in (
        turn.0,
        found,
        record {
          answer_is = turn.2.answer_is;
          greeted_is = turn.2.greeted_is;
          adds = adds_later found (placed_by k.number entries)
              (subst (λ (n : ℕ). SeesAndAdds k' k'' found (placed_by n entries)) looks.1.number turn.2.adds);
        },
        turn.3,
      )
  turn_later s s' m (Err end) turn =
      (turn.0, record { greeted_is = turn.1.greeted_is; adds = adds_later turn.0 [] turn.1.adds }, turn.2)

  -- and so it is of the document that the log begins with
  pub turn_after : (s s' : Bool) (m : ToServer) (r : Result Reply SessionEnd) → OfDocument k'.seen (λ g. TakesTurn g k' k'' s s' m r) → IsLogOf g k.seen
      → TakesTurn g k k'' s s' m r
  turn_after s s' m r turn log = turn_later s s' m r (turn g (starts_log g k'.seen k.seen later_seen log))
