use Rattle.std.proofs.Common.{arith}
use Rattle.sporc_delta.proofs.Spelled.{length-parts_bytes, part_within}
use Rattle.sporc_delta.proofs.encode.parts_len.Goals as goal

pub part_len-total-requires : goal.part_len-total-requires
part_len-total-requires c =
    omega (arith, c.loop-part.invariant.few, c.loop-part.invariant.total, length-parts_bytes c.args.parts.now, part_within c.args.parts.now c.loop-part.part-index c.part-item.result c.loop-part-test.true c.part-item.is)

pub overflow_add-total : goal.overflow_add-total
overflow_add-total c =
    omega (arith, c.loop-part.invariant.few, c.loop-part.invariant.total, length-parts_bytes c.args.parts.now, part_within c.args.parts.now c.loop-part.part-index c.part-item.result c.loop-part-test.true c.part-item.is)
