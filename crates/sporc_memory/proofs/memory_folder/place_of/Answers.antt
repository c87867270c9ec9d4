use Rattle.std.proofs.Common.{◌≡◌, ◌+◌, ℕ, suc, take, subst, arith, rules, true, false, None}
use Rattle.sporc_memory.proofs.Common.{bytes_eq, file_in}
use Rattle.sporc_memory.proofs.Files.{place_from, none_more}
use Rattle.sporc_memory.proofs.memory_folder.place_of.Goals as goal

pub returns-then-is_named-clause-found : goal.returns-then-is_named-clause-found
returns-then-is_named-clause-found c =
    let named : bytes_eq c.index-files-i.result.name c.args.name.now ≡ true = search rules in
    place_from c.args.files.now c.args.name.now c.loop-i.i c.index-files-i.result c.loop-i-test.true c.index-files-i.is named c.loop-i.invariant

pub loop-i-preserved : goal.loop-i-preserved
loop-i-preserved c =
    let other : bytes_eq c.index-files-i.result.name c.args.name.now ≡ false = search rules in
    let more : suc c.loop-i.i ≡ c.loop-i.i + 1 = omega arith in
    subst (λ (n : ℕ). file_in (take n c.args.files.now) c.args.name.now ≡ None) more
    (none_more c.args.files.now c.args.name.now c.loop-i.i c.index-files-i.result c.loop-i-test.true c.index-files-i.is other c.loop-i.invariant)
