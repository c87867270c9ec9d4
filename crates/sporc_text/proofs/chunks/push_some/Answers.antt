use Rattle.std.proofs.Common.{take, length, ap, arith, length-append}
use Rattle.sporc_text.proofs.Common.{concat, into_iter_items}
use Rattle.sporc_text.proofs.MoveLemmas.{length-take-fewer, more_moved}
use Rattle.sporc_text.proofs.chunks.push_some.Goals as goal

pub push_next-requires-clause-room : goal.push_next-requires-clause-room
push_next-requires-clause-room c =
    let from = into_iter_items c.args.chunks.now in
    omega (arith, ap length c.loop.invariant.value, length-append (concat c.args.list.now.items) (concat (take c.loop.counter from)), length-take-fewer from c.loop.counter c.args.count (omega arith), c.loop.invariant.capacity)

pub loop-preserved : goal.loop-preserved
loop-preserved c = more_moved _ _ _ _ _ _ _ _ _ _ c.loop.invariant c.push_next.ensures.chunks c.push_next.ensures.value c.push_next.ensures.rest c.push_next.ensures.capacity
