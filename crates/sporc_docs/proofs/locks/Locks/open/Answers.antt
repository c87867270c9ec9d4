use Rattle.std.proofs.Common.{◌≡◌, ◌∷◌, ◌++◌, ◌+◌, ◌∙◌, [], Option, length, option_to_list, vec_len, subst, arith}
use Rattle.sporc_docs.proofs.Opening.{kept_length, kept_more, last_kept, open_more, reversed_more}
use Rattle.sporc_docs.proofs.locks.Locks.open.Goals as goal

pub unwrap-tail-requires : goal.unwrap-tail-requires
unwrap-tail-requires g c =
    let same = kept_length g.T.Tail.keeps c.loop-order.tails.items c.loop-order.orders.items c.loop-order.invariant.kept in
    let less = c.in-Some.ensures.cases in
    let orders = c.loop-order.orders.ok.0 in
    let tails = c.loop-order.tails.ok.0 in
    c.pop-in-Some.ensures.variant.1 (omega (arith, same, less, orders, tails))

pub open_kept-requires : goal.open_kept-requires
open_kept-requires g c =
    let last = subst (λ (r : Option g.row.T.Denot). c.loop-order.tails.items ≡ c.pop-in-Some.new.self.items ++ option_to_list r) c.unwrap-tail.ensures c.pop-in-Some.ensures.items in
    record {
      tail = (last_kept g.T.Tail.keeps c.loop-order.tails.items c.pop-in-Some.new.self.items c.loop-order.orders.items c.pop.new.self.items c.unwrap-tail.result c.in-Some.order
          c.loop-order.invariant.kept last c.in-Some.ensures.items).1;
    }

pub push_reserved-requires-in-Err : goal.push_reserved-requires-in-Err
push_reserved-requires-in-Err g c =
    let len = subst (λ (r : Option g.row.T.Denot). vec_len c.pop-in-Some.new.self + length (option_to_list r) ≡ vec_len c.loop-order.tails) c.unwrap-tail.ensures c.pop-in-Some.ensures.len in
    let same = c.pop-in-Some.ensures.capacity in
    let within = c.loop-order.tails.ok.1 in
    omega (arith, len, same, within)

pub returns-in-Err-clause-tails : goal.returns-in-Err-clause-tails
returns-in-Err-clause-tails g c =
    let last = subst (λ (r : Option g.row.T.Denot). c.loop-order.tails.items ≡ c.pop-in-Some.new.self.items ++ option_to_list r) c.unwrap-tail.ensures c.pop-in-Some.ensures.items in
    let less = last_kept g.T.Tail.keeps c.loop-order.tails.items c.pop-in-Some.new.self.items c.loop-order.orders.items c.pop.new.self.items c.unwrap-tail.result c.in-Some.order
    c.loop-order.invariant.kept last c.in-Some.ensures.items in
    kept_more g.T.Tail.keeps c.pop-in-Some.new.self.items c.push_reserved-in-Err.new.self.items c.pop.new.self.items c.push_reserved.new.self.items c.in-Err.kept.tail c.in-Err.kept.order less.0
    c.in-Err.ensures.returned_tail c.push_reserved-in-Err.ensures.items c.push_reserved.ensures.items

pub loop-order-preserved : goal.loop-order-preserved
loop-order-preserved g c =
    let before = c.loop-order.invariant in
    let os = before.opened.0 in
    let less = c.in-Some.ensures.cases in
    let len = c.push.ensures.len in
    let room = c.push.ensures.room in
    let turns = before.turns in
    let documents = before.documents in
    let firsts = before.firsts in
    let last = subst (λ (r : Option g.row.T.Denot). c.loop-order.tails.items ≡ c.pop-in-Some.new.self.items ++ option_to_list r) c.unwrap-tail.ensures c.pop-in-Some.ensures.items in
    record {
      opened = (
        os ++ c.in-Some.order ∷ [],
        reversed_more c.args.orders.now.items c.loop-order.orders.items c.pop.new.self.items c.in-Some.order os before.opened.1 c.in-Some.ensures.items,
        open_more os c.in-Some.order c.loop-order.self c.push.new.self c.in-Ok.turn c.document-document.result.now c.in-Ok.first before.opened.2 c.push.ensures.turns
            c.push.ensures.documents c.push.ensures.firsts c.in-Ok.ensures.lock c.document-document.ensures.value c.in-Ok.ensures.first,
      );
      kept = (last_kept g.T.Tail.keeps c.loop-order.tails.items c.pop-in-Some.new.self.items c.loop-order.orders.items c.pop.new.self.items c.unwrap-tail.result c.in-Some.order
          before.kept last c.in-Some.ensures.items).0;
      turns = omega (arith, turns, less, len.0, room.0);
      documents = omega (arith, documents, less, len.1, room.1);
      firsts = omega (arith, firsts, less, len.2, room.2);
      room = c.pop.ensures.capacity ∙ before.room;
      tails_room = c.pop-in-Some.ensures.capacity ∙ before.tails_room;
    }
