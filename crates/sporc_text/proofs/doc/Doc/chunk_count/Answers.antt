use Rattle.std.proofs.Common.{arith}
use Rattle.sporc_text.proofs.ChunkLemmas.{few_chunks, long_chunks, no_chunks}
use Rattle.sporc_text.proofs.doc.Doc.chunk_count.Goals as goal

pub returns : goal.returns
returns c = rw (← c.self.view_is) record {
  most = omega (arith, long_chunks _ c.self.invariant.are_chunks);
  joined = λ some. omega (arith, few_chunks _ c.self.invariant.are_chunks);
  empty = λ none. omega (arith, no_chunks _ c.self.invariant.are_chunks none);
}
