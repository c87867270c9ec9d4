use Rattle.std.proofs.Common.{◌≡◌, ◌∷◌, ◌∙◌, ◌+◌, [], None, List, ap, length, length-append, replicate, sym, subst, arith}
use Rattle.sporc_docs.proofs.Common.{Hand, AllHands}
use Rattle.std.proofs.SliceLists.{all_by_recursion_push}
use Rattle.sporc_docs.proofs.hands.empty_hands.Goals as goal

pub loop-preserved : goal.loop-preserved
loop-preserved c =
    let items = c.push_reserved.ensures.items in
    let one = length-append c.loop.hands.items (c.in_ok-hand.hand ∷ []) in
    let size = ap length items in
    let before = c.loop.invariant.count in
    let room = c.loop.invariant.room in
    let same = c.push_reserved.ensures.capacity in
    record {
      count = size ∙ one ∙ ap (λ n. n + 1) before;
      room = omega (arith, room, same);
      empty = subst (λ (hs : List Hand). AllHands (λ passes. passes ≡ replicate c.args.len None) hs) (sym items)
          (all_by_recursion_push (λ (hand : Hand). hand.passes.items ≡ replicate c.args.len None) c.loop.hands.items c.in_ok-hand.hand c.loop.invariant.empty c.in_ok-hand.ensures);
    }
