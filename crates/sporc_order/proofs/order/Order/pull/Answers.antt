use Rattle.std.proofs.Common.{ap, subst, ◌∙◌, ◌≤◌, length}
use Rattle.sporc_order.proofs.Common.{All, MAX_ENTRY}
use Rattle.sporc_order.specs.OrderModel.{OrderModel}
use Rattle.sporc_order.proofs.Batches.{is_batch, is_empty}
use Rattle.sporc_order.proofs.Sizes.{is_few}
use Rattle.sporc_order.proofs.order.Order.pull.Goals as goal

pub returns-clause-entries : goal.returns-clause-entries
returns-clause-entries c =
    is_batch c.entries-entries.result.now c.args.self.now.entries c.args.from c.min-from.result c.batch_len.result
    (c.entries-entries.ensures.value ∙ ap (λ (m : OrderModel). m.entries) c.self.view_is) c.min-from.ensures c.batch_len.ensures.value

pub returns-clause-none_left : goal.returns-clause-none_left
returns-clause-none_left c =
    is_empty _ c.args.self.now.entries c.args.from
    (subst (λ (m : OrderModel). All (λ b. length b ≤ MAX_ENTRY) m.entries) c.self.view_is c.entries-entries.ensures.each_within)
    (returns-clause-entries c)

pub returns-clause-within : goal.returns-clause-within
returns-clause-within c = is_few _ c.args.self.now.entries c.args.from (returns-clause-entries c)
