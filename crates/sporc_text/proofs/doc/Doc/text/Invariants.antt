use Rattle.std.proofs.Common.{◌≡◌, take, string_bytes, encode_utf8_all}
use Rattle.sporc_text.proofs.Common.{concat}
use Rattle.sporc_text.proofs.doc.Doc.text.Given as goal

abbrev pub invariant-loop-chunk : goal.invariant-loop-chunk
invariant-loop-chunk l = string_bytes l.text ≡ encode_utf8_all (concat (take l.chunk-index l.chunk-items))
