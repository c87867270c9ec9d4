use Rattle.std.proofs.Common.{◌≡◌, ◌++◌, drop}
use Rattle.sporc_text.proofs.chunks.copies.Given as goal

abbrev pub invariant-loop-chunk : goal.invariant-loop-chunk
invariant-loop-chunk l = l.copies.items ++ drop l.chunk-index l.chunks ≡ l.chunks
