use Rattle.std.proofs.Common.{◌≡◌, ◌<◌, ◌∙◌, ap, sym, None, List, length, arith}
use Rattle.sporc_docs.proofs.Common.{OrderModel, place_of}
use Rattle.sporc_docs.proofs.Places.{kept_apart, is_none}
use Rattle.sporc_docs.proofs.docs.Docs.add.Goals as goal

pub invariant_of-self : goal.invariant_of-self
invariant_of-self c =
    let os = c.self.inside.orders.items in
    let room : length os < 64 =
    (let same = ap length c.deref.ensures.value in omega (arith, same, c.deref.ensures.len, c.len.ensures, c.if-len-ge-MAX_DOCUMENTS.false)) in
    let none : place_of os c.args.order.genesis.document ≡ None =
    ap (λ (l : List OrderModel). place_of l c.args.order.genesis.document) (sym c.deref.ensures.value)
    ∙ ap (place_of c.deref.result.now) (sym c.document.ensures.value) ∙ sym c.place_in.ensures.value
    ∙ is_none c.place_in.result (sym c.is_some.ensures ∙ c.if-is_some.false) in
    kept_apart c.push.result os c.push.new.self.items c.args.order 64 c.push.ensures.items room c.self.invariant.1 none
