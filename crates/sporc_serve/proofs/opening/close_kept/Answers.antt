use Rattle.std.proofs.Common.{◌∙◌, List, ap, sym, subst}
use Rattle.sporc_serve.proofs.Common.{Item, order_at, IsLogOf}
use Rattle.sporc_serve.proofs.Logs.{order_is}
use Rattle.sporc_serve.proofs.opening.close_kept.Goals as goal

pub returns-in-Ok-clause-order : goal.returns-in-Ok-clause-order
returns-in-Ok-clause-order g c genesis begins =
    let log = c.in-Ok.ensures.log in
    c.into_kept.ensures.order
    ∙ order_is genesis c.in-Ok.desk.order c.in-Ok.desk.numbers.items c.in-Ok.desk.matched (subst (λ (l : List Item). IsLogOf genesis l) (sym log) begins)
    ∙ ap (order_at genesis) log
