use Rattle.std.proofs.Common.{ap, sym, ◌∙◌}
use Rattle.sporc_memory.proofs.Common.{MemoryNetModel}
use Rattle.sporc_memory.proofs.ListedItems.{fresh_before, last_first}
use Rattle.sporc_memory.proofs.memory_net.MemoryNet.hand_out.Goals as goal

pub invariant_of-self-in-Some : goal.invariant_of-self-in-Some
invariant_of-self-in-Some c =
    (c.in-Ok.ensures.ok, fresh_before c.self.inside.coming.items c.pop.new.self.items c.in-Some.link c.in-Some.ensures.items c.self.invariant.1)

pub returns-in-Some-clause-ok : goal.returns-in-Some-clause-ok
returns-in-Some-clause-ok c =
    ap (λ (m : MemoryNetModel). m.coming) (sym c.self.view_is) ∙ last_first c.self.inside.coming.items c.pop.new.self.items c.in-Some.link c.in-Some.ensures.items
