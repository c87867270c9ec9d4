use Rattle.std.proofs.Common.{arith}
use Rattle.sporc_wire.proofs.EntryFrames.{body_length, body_put}
use Rattle.sporc_wire.proofs.entry_frames.put_body.Goals as goal

pub put_entries-requires : goal.put_entries-requires
put_entries-requires c = omega (arith, body_length c.args.first c.args.entries.now, c.requires.body_limit)

pub returns : goal.returns
returns c =
    body_put c.args.first c.args.entries.now c.put_entries.result c.args.out.now c.put_u8.new.self c.put_u32.new.self
    c.put_u8-2.new.self c.put_entries.new.out c.in_ok-put_u8.ensures.ok c.in_ok-put_u32.ensures.ok c.in_ok-put_u8-2.ensures.ok c.put_entries.ensures
