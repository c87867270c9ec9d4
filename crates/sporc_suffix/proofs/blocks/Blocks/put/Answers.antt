use Rattle.std.proofs.Common.{◌^◌, ◌-◌, ◌<◌, length, sym, subst, arith}
use Rattle.sporc_suffix.proofs.Common.{length-map, BlocksModel, ReadyModel, IsReadyAt}
use Rattle.sporc_suffix.proofs.Kept.{blocks_push}
use Rattle.sporc_suffix.proofs.blocks.Blocks.put.Goals as goal

pub invariant_of-self : goal.invariant_of-self
invariant_of-self c =
    let items = c.self.inside.forms.items in
    let P : BlocksModel → Type 0 = λ b. IsReadyAt b.base b.forms c.args.ready in
    let Q : BlocksModel → Type 0 = λ b. length b.forms < 2 ^ 32 - 1 in
    let few = subst Q (sym c.self.view_is) c.requires.limit in
    rw c.push_reserved.ensures.items
    (blocks_push c.self.inside.base c.self.inside.forms.items c.args.ready c.self.invariant (subst P (sym c.self.view_is) c.requires.made)
    (omega (arith, few, length-map c.self.inside.forms.items (λ (item : ReadyModel). item.form))))
