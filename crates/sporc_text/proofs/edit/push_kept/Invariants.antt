use Rattle.std.proofs.Common.{◌≡◌, ◌++◌, take, drop}
use Rattle.sporc_text.proofs.Common.{concat}
use Rattle.sporc_text.proofs.edit.push_kept.Given as goal

abbrev pub invariant-loop-chunk : goal.invariant-loop-chunk
invariant-loop-chunk l = l.out.items ++ take l.left (drop l.skipped (concat (drop l.chunk-index l.chunks))) ≡ l.initial.out.items ++ take l.count (drop l.from (concat l.chunks))
