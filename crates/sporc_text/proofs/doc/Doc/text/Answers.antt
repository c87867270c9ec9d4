use Rattle.std.proofs.Common.{◌++◌, string_bytes, encode_utf8_all, ap, ◌∙◌, arith}
use Rattle.sporc_text.proofs.Spelled.{all_spelled, chunk_spelled, spelled}
use Rattle.sporc_text.proofs.doc.Doc.text.Goals as goal

pub loop-chunk-preserved : goal.loop-chunk-preserved
loop-chunk-preserved c =
    chunk_spelled _ _ _ _ _ c.loop-chunk.invariant c.chunk-item.is c.loop-chunk-test.true
    (c.in_ok-push_characters.ensures ∙ ap (λ l. string_bytes c.loop-chunk.text ++ encode_utf8_all l) c.characters.ensures.value)

pub returns : goal.returns
returns c =
    let ok = all_spelled (string_bytes c.loop-chunk.text) c.deref-chunk-items.result.now _ c.loop-chunk.chunk-index _ c.loop-chunk.invariant (omega arith) c.deref-chunk-items.ensures.value c.self.view_is in
    record { ok = ok; characters = spelled c.loop-chunk.text _ ok }
