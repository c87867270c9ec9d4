use Rattle.std.proofs.Common.{arith}
use Rattle.sporc_wire.proofs.EntryFrames.{body_length}
use Rattle.sporc_wire.proofs.entry_frames.body_len.Goals as goal

pub returns : goal.returns
returns c = omega (arith, body_length c.args.first c.args.entries.now, c.counted_len.ensures, c.saturating_add.ensures)
