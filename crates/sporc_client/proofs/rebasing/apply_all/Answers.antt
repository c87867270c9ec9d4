use Rattle.std.proofs.Common.{ℕ, ◌+◌, List, drop, fold, ap, sym, subst, ◌∙◌}
use Rattle.sporc_client.proofs.Common.{Pending, after_pending, AreStated}
use Rattle.sporc_client.proofs.Rebased.{item_at, first_stated}
use Rattle.sporc_client.proofs.rebasing.apply_all.Goals as goal

pub apply_one-requires : goal.apply_one-requires
apply_one-requires c =
    let loop = c.loop-item in
    let here = item_at c.args.items.now loop.item-index c.item-item.result c.loop-item-test.true c.item-item.is in
    let P : List Pending → Type 0 = λ items. AreStated loop.text items in
    record { stated = (first_stated loop.text c.item-item.result (drop (loop.item-index + 1) c.args.items.now) (subst P here loop.invariant.stated)).first }

pub loop-item-preserved : goal.loop-item-preserved
loop-item-preserved c =
    let loop = c.loop-item in
    let rest = drop (loop.item-index + 1) c.args.items.now in
    let here = item_at c.args.items.now loop.item-index c.item-item.result c.loop-item-test.true c.item-item.is in
    let P : List Pending → Type 0 = λ items. AreStated loop.text items in
    let Q : List ℕ → Type 0 = λ text. AreStated text rest in
    let one = c.in_ok-apply_one.ensures.value in
    record {
      stated = subst Q (sym one) (first_stated loop.text c.item-item.result rest (subst P here loop.invariant.stated)).rest;
      text = ap (λ (text : List ℕ). fold after_pending text rest) one ∙ sym (ap (fold after_pending loop.text) here) ∙ loop.invariant.text;
    }
