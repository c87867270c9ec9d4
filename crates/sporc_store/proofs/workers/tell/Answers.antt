use Rattle.std.proofs.Common.{ℕ, List, get_or, None, sym, subst}
use Rattle.sporc_store.proofs.Common.{IfSome}
use Rattle.sporc_head.specs.Examined.{IsExact}
use Rattle.sporc_store.proofs.Exactly.{exact_first}
use Rattle.sporc_store.proofs.workers.tell.Goals as goal

pub learn-requires : goal.learn-requires
learn-requires c =
    let i = c.loop-i.i in
    let e = c.index-entries-i.result in
    subst (λ (es : List (List ℕ)). IfSome (get_or c.args.verdicts.now i None) (λ verdict. IsExact verdict (get_or es i e))) (sym c.loop-i.invariant)
    (exact_first c.args.verdicts.now c.args.entries.now c.args.count i None e c.requires.exact c.requires.in_bounds c.loop-i-test.true)
