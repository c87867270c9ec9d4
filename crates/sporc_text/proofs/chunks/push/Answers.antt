use Rattle.std.proofs.Common.{ℕ, ◌-◌, List, ◌++◌, length, set, ap, sym, ◌∙◌, arith}
use Rattle.sporc_text.proofs.Common.{false≢true, Joins}
use Rattle.sporc_text.proofs.ChunkLemmas.{AreJoined, few_chunks, joined, pushed}
use Rattle.sporc_text.proofs.chunks.push.Goals as goal

pub unwrap-requires : goal.unwrap-requires
unwrap-requires c = c.push.ensures.succeeds (omega (arith, few_chunks _ c.requires.chunks))

after_joining : (c : goal.After-drop-chunk-inside-then-joins) → AreJoined c.args.list.now.items c.args.chunk (set c.args.list.now.items (c.len-last.result - 1) c.extend.new.self)
after_joining c =
    let few : Joins c.args.list.now.items (length c.args.chunk) = rw (← c.as_slice.ensures.value, ← c.len-2.ensures.value) (c.joins.ensures.0 c.if-joins.true) in
    joined c.args.list.now.items (c.len-last.result - 1) c.args.chunk c.index_mut.result.now c.extend.new.self c.requires.chunks (omega (arith, few.0)) few (omega arith) c.index_mut.ensures.value
    (c.extend.ensures ∙ ap (λ (t : List ℕ). c.index_mut.result.now ++ t) c.characters.ensures.value)

pub returns-then-joins-clause-chunks : goal.returns-then-joins-clause-chunks
returns-then-joins-clause-chunks c = (after_joining c).chunks

pub returns-then-joins-clause-value : goal.returns-then-joins-clause-value
returns-then-joins-clause-value c = (after_joining c).value

apart : (c : goal.After-unwrap) → Joins c.args.list.now.items (length c.args.chunk) → ⊥
apart c few = false≢true (sym c.if-joins.false ∙ c.joins.ensures.1 (rw (c.as_slice.ensures.value, c.len-2.ensures.value) few))

after_pushing : (c : goal.After-unwrap) → AreJoined c.args.list.now.items c.args.chunk c.push.new.self.items
after_pushing c =
    let items = rw c.unwrap.ensures at c.push.ensures.items in
    rw items (pushed c.args.list.now.items c.args.chunk c.requires.chunks (λ few. apart c few) (omega arith) (omega arith))

pub returns-else-joins-clause-chunks : goal.returns-else-joins-clause-chunks
returns-else-joins-clause-chunks c = (after_pushing c).chunks

pub returns-else-joins-clause-value : goal.returns-else-joins-clause-value
returns-else-joins-clause-value c = (after_pushing c).value
