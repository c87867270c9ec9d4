use Rattle.std.proofs.Common.{rules, ap, ℕ, List, map}
use Rattle.sporc_head.proofs.Common.{Vec}
use Rattle.sporc_head.proofs.Keeping.{keeps_open, tables_empty}
use Rattle.sporc_head.proofs.heads.Heads.open.Goals as goal

pub invariant_of-result : goal.invariant_of-result
invariant_of-result c =
    let items : Vec ℕ → List ℕ = λ v. v.items in
    keeps_open c.args.genesis _ _ _ _ _ c.requires (ap (map items) c.new.ensures.items) (search rules) (search rules) (tables_empty _ _ c.new-tables.ensures.tallies c.new-tables.ensures.removals)
