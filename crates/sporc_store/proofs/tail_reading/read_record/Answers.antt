use Rattle.std.proofs.Common.{arith}
use Rattle.sporc_store.proofs.TailSteps.{bytes_end, number_end}
use Rattle.sporc_store.proofs.tail_reading.read_record.Goals as goal

pub returns-in-Ok-take-clause-within : goal.returns-in-Ok-take-clause-within
returns-in-Ok-take-clause-within c =
    let position = number_end c.args.cursor.now (c.in-Ok.found, c.u32.new.self) c.in-Ok.ensures.ok in
    let len = number_end c.u32.new.self (c.in-Ok-u32.len, c.u32-2.new.self) c.in-Ok-u32.ensures.ok in
    let entry = bytes_end c.in-Ok-u32.len c.u32-2.new.self (c.in-Ok-take.entry.now, c.take.new.self) c.in-Ok-take.ensures.ok in
    (omega (arith, position.1, len.1, entry.1), omega (arith, position.0, len.0, entry.0))
