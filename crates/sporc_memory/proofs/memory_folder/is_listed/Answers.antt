use Rattle.std.proofs.Common.{◌≡◌, false, List, ℕ, subst, arith, rules}
use Rattle.sporc_memory.proofs.Common.{All, bytes_eq, take_all, All-more}
use Rattle.sporc_memory.proofs.memory_folder.is_listed.Goals as goal

pub loop-i-preserved : goal.loop-i-preserved
loop-i-preserved c =
    let P : List ℕ → Type 0 = λ other. bytes_eq other c.args.name.now ≡ false in
    let here : P c.index-names-i.result = search rules in
    All-more P c.args.names.now c.loop-i.i c.index-names-i.result c.loop-i-test.true c.loop-i.invariant (subst P c.index-names-i.is here)

pub returns : goal.returns
returns c = λ _.
    let P : List ℕ → Type 0 = λ other. bytes_eq other c.args.name.now ≡ false in
    subst (All P) (take_all c.loop-i.i c.args.names.now (omega (arith, c.loop-i-test.false))) c.loop-i.invariant
