use Rattle.std.proofs.Common.{drop, ap, ◌∙◌}
use Rattle.sporc_text.proofs.Common.{into_iter_items}
use Rattle.sporc_text.proofs.MoveLemmas.{drop-next}
use Rattle.sporc_text.proofs.chunks.push_behind.Goals as goal

pub loop-preserved : goal.loop-preserved
loop-preserved c = c.skip_next.ensures ∙ ap (λ l. drop 1 l) c.loop.invariant ∙ drop-next (into_iter_items c.args.chunks) c.loop.counter
