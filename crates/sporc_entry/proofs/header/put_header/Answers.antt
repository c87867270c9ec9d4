use Rattle.std.proofs.Common.{append_assoc}
use Rattle.sporc_entry.specs.Entry.{header_bytes}
use Rattle.sporc_entry.proofs.header.put_header.Goals as goal

pub returns : goal.returns
unfolding header_bytes
returns c = rw (
  c.in_ok-put_u8-2.ensures.ok,
  c.in_ok-put_u32-4.ensures.ok,
  c.in_ok-put_u32-3.ensures.ok,
  c.in_ok-put_bytes-2.ensures.ok,
  c.in_ok-put_u32-2.ensures.ok,
  c.in_ok-put_u32.ensures.ok,
  c.in_ok-put_device.ensures,
  c.in_ok-put_u16.ensures.ok,
  c.in_ok-put_bytes.ensures.ok,
  c.in_ok-put_u8.ensures.ok,
) (simp append_assoc)
