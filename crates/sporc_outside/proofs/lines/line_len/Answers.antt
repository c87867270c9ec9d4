use Rattle.std.proofs.Common.{arith}
use Rattle.sporc_outside.proofs.LineLemmas.{line_ends, line_goes_on, line_len-le}
use Rattle.sporc_outside.proofs.lines.line_len.Goals as goal

pub loop-len-preserved : goal.loop-len-preserved
loop-len-preserved c = line_goes_on c.args.bytes.now c.loop-len.len c.loop-len.invariant c.loop-len-test.true c.if-bytes-len-ne10.true

pub returns-else-bytes-len-ne10 : goal.returns-else-bytes-len-ne10
returns-else-bytes-len-ne10 c = line_ends c.args.bytes.now c.loop-len.len c.loop-len.invariant c.loop-len-test.true c.if-bytes-len-ne10.false

pub returns-after-loop-len : goal.returns-after-loop-len
returns-after-loop-len c = omega (arith, c.loop-len.invariant, c.loop-len-test.false, line_len-le c.args.bytes.now)
