use Rattle.sporc_text.proofs.KeptLemmas.{keeps_on}
use Rattle.sporc_text.proofs.edit.push_kept.Goals as goal

pub loop-chunk-preserved : goal.loop-chunk-preserved
loop-chunk-preserved c =
    let anew = keeps_on c.args.chunks.now c.loop-chunk.chunk-index c.chunk-item.result _ _ _ _ c.characters.result.now c.cut.result.1.now c.cut-in-loop-chunk.result.0.now c.extend_from_slice.new.self.items
    c.loop-chunk.invariant c.chunk-item.is c.loop-chunk-test.true c.characters.ensures.value c.cut.ensures.back c.cut-in-loop-chunk.ensures.front c.in_ok-extend_from_slice.ensures.items in
    rw c.len.ensures.value anew
