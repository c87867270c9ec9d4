use Rattle.std.proofs.Common.{arith}
use Rattle.sporc_suffix.proofs.Kept.{last_of-ge}
use Rattle.sporc_suffix.proofs.runs.+last_of.Goals as goal

pub overflow_mul-place : goal.overflow_mul-place
overflow_mul-place t c = omega (arith, c.requires, last_of-ge c.args.level c.args.place)

pub overflow_add-place : goal.overflow_add-place
overflow_add-place t c = omega (arith, c.requires, last_of-ge c.args.level c.args.place)
