use Rattle.std.proofs.Common.{ap, ◌∙◌}
use Rattle.sporc_text.proofs.Common.{replaced}
use Rattle.sporc_text.proofs.MoveLemmas.{rewritten_within}
use Rattle.sporc_text.proofs.chunks.replace_within.Goals as goal

pub returns : goal.returns
returns c =
    let anew = c.respelled-chunk.ensures ∙ ap (λ l. replaced c.args.splice.now.kept c.args.splice.now.removed c.args.splice.now.middle.now l) c.characters.ensures.value in
    let after = rewritten_within _ c.args.i _ _ _ c.index.result.now c.respelled-chunk.result c.requires.chunks c.requires.in_bounds c.index.ensures anew in
    record { chunks = after.chunks; value = after.value }
