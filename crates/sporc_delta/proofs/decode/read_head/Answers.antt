use Rattle.std.proofs.Common.{length, ap, arith, length-append}
use Rattle.sporc_delta.proofs.decode.read_head.Goals as goal

pub returns-clause-rest : goal.returns-clause-rest
returns-clause-rest c = omega (arith, ap length c.in_ok-head.ensures.spelled, length-append c.in_ok-head.head c.array.new.self.rest)
