use Rattle.std.proofs.Common.{arith}
use Rattle.sporc_text.proofs.ChunkLemmas.{length-take-more}
use Rattle.sporc_text.proofs.chunks.find.Goals as goal

pub loop-i-preserved : goal.loop-i-preserved
loop-i-preserved c = omega (arith, length-take-more _ _ _ c.index-chunks-i.is c.loop-i-test.true)
