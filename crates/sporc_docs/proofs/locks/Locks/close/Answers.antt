use Rattle.std.proofs.Common.{◌≡◌, ◌∷◌, ◌++◌, ◌∙◌, [], Option, sym, subst, append-nil, option_to_list, arith}
use Rattle.sporc_docs.proofs.Common.{Pass, Item, HasFirst, IsBack, Closes}
use Rattle.sporc_docs.proofs.Opening.{kept_more, last_both, last_back, has_some, shifted, reversed_behind}
use Rattle.sporc_docs.proofs.locks.Locks.close.Goals as goal

pub loop-turn-init : goal.loop-turn-init
loop-turn-init g c = record {
  first = c.requires.firsts;
  back = c.requires.back;
  closed = ([], [], sym (append-nil c.args.self.firsts.items), sym (append-nil c.args.orders.now.items), tt);
  kept = c.requires.tails;
  room = c.requires.room;
  tails_room = c.requires.tails_room;
}

pub unwrap-first-requires : goal.unwrap-first-requires
unwrap-first-requires g c =
    let last = subst (λ (r : Option (Option (Pass Item))). c.loop-turn.firsts.items ≡ c.pop-in-Some.new.self.items ++ option_to_list r) c.unwrap.ensures c.pop-in-Some.ensures.items in
    has_some c.in-Some.turn c.unwrap.result (last_both HasFirst c.loop-turn.turns.items c.pop.new.self.items c.loop-turn.firsts.items c.pop-in-Some.new.self.items c.in-Some.turn
    c.unwrap.result c.loop-turn.invariant.first c.in-Some.ensures.items last).1

pub close_kept-requires-clause-lock : goal.close_kept-requires-clause-lock
close_kept-requires-clause-lock g c =
    let last = subst (λ (r : Option (Option (Pass Item))). c.loop-turn.firsts.items ≡ c.pop-in-Some.new.self.items ++ option_to_list r) c.unwrap.ensures c.pop-in-Some.ensures.items in
    let has = (last_both HasFirst c.loop-turn.turns.items c.pop.new.self.items c.loop-turn.firsts.items c.pop-in-Some.new.self.items c.in-Some.turn
    c.unwrap.result c.loop-turn.invariant.first c.in-Some.ensures.items last).1 in
    (subst (λ (q : Option (Pass Item)). HasFirst c.in-Some.turn q) c.unwrap-first.ensures has).0

pub close_kept-requires-clause-first : goal.close_kept-requires-clause-first
close_kept-requires-clause-first g c =
    let last = subst (λ (r : Option (Option (Pass Item))). c.loop-turn.firsts.items ≡ c.pop-in-Some.new.self.items ++ option_to_list r) c.unwrap.ensures c.pop-in-Some.ensures.items in
    let has = (last_both HasFirst c.loop-turn.turns.items c.pop.new.self.items c.loop-turn.firsts.items c.pop-in-Some.new.self.items c.in-Some.turn
    c.unwrap.result c.loop-turn.invariant.first c.in-Some.ensures.items last).1 in
    (subst (λ (q : Option (Pass Item)). HasFirst c.in-Some.turn q) c.unwrap-first.ensures has).1

pub loop-turn-preserved : goal.loop-turn-preserved
loop-turn-preserved g c =
    let last = subst (λ (r : Option (Option (Pass Item))). c.loop-turn.firsts.items ≡ c.pop-in-Some.new.self.items ++ option_to_list r) c.unwrap.ensures c.pop-in-Some.ensures.items in
    let both = last_both HasFirst c.loop-turn.turns.items c.pop.new.self.items c.loop-turn.firsts.items c.pop-in-Some.new.self.items c.in-Some.turn
    c.unwrap.result c.loop-turn.invariant.first c.in-Some.ensures.items last in
    let back = last_back c.loop-turn.firsts.items c.pop-in-Some.new.self.items c.unwrap.result c.loop-turn.invariant.back last in
    let closed = c.loop-turn.invariant.closed in
    let one = subst (λ (q : Option (Pass Item)). Closes q c.in-Ok.kept.order) (sym c.unwrap-first.ensures) (c.in-Ok.ensures.agrees, c.in-Ok.ensures.order) in
    let room = c.loop-turn.invariant.room in
    let less = c.in-Some.ensures.cases in
    let more = c.push_reserved.ensures.len in
    let same = c.push_reserved.ensures.capacity in
    let tails_room = c.loop-turn.invariant.tails_room in
    let tails_more = c.push_reserved-in-Ok.ensures.len in
    let tails_same = c.push_reserved-in-Ok.ensures.capacity in
    record {
      first = both.0;
      back = back.0;
      closed = (
        c.unwrap.result ∷ closed.0,
        c.in-Ok.kept.order ∷ closed.1,
        shifted c.args.self.firsts.items c.loop-turn.firsts.items c.pop-in-Some.new.self.items c.unwrap.result closed.0 closed.2 last,
        reversed_behind c.args.orders.now.items c.loop-turn.orders.items c.push_reserved.new.self.items c.in-Ok.kept.order closed.1 closed.3 c.push_reserved.ensures.items,
        (one, closed.4),
      );
      kept = kept_more g.T.Tail.keeps c.loop-turn.tails.items c.push_reserved-in-Ok.new.self.items c.loop-turn.orders.items c.push_reserved.new.self.items c.in-Ok.kept.tail c.in-Ok.kept.order
          c.loop-turn.invariant.kept c.in-Ok.ensures.tail c.push_reserved-in-Ok.ensures.items c.push_reserved.ensures.items;
      room = omega (arith, room, less, more, same);
      tails_room = omega (arith, tails_room, less, tails_more, tails_same);
    }

pub unreachable-requires : goal.unreachable-requires
unreachable-requires g c =
    let last = subst (λ (r : Option (Option (Pass Item))). c.loop-turn.firsts.items ≡ c.pop-in-Some.new.self.items ++ option_to_list r) c.unwrap.ensures c.pop-in-Some.ensures.items in
    let back = last_back c.loop-turn.firsts.items c.pop-in-Some.new.self.items c.unwrap.result c.loop-turn.invariant.back last in
    c.in-Err.ensures.away.1 (c.in-Err.ensures.away.0 ∙ subst (λ (q : Option (Pass Item)). IsBack q) c.unwrap-first.ensures back.1)
