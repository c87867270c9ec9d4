use Rattle.std.proofs.Common.{ℕ, Vec, Global, length, arith, ap, length-append}
use Rattle.sporc_wire.proofs.Common.{w32, to_be_bytes, counted, length-flat_map-take}
use Rattle.sporc_wire.proofs.EntryFrames.{put_more, put_all}
use Rattle.sporc_wire.proofs.entry_frames.put_entries.Goals as goal

pub put_counted-requires : goal.put_counted-requires
put_counted-requires c =
    let entry = c.entry-item.result in
    let one = length-flat_map-take (λ (e : Vec ℕ Global). counted e.items) c.args.entries.now c.loop-entry.entry-index entry c.loop-entry-test.true in
    let same = ap (λ (e : Vec ℕ Global). length (counted e.items)) c.entry-item.is in
    let parts = length-append (to_be_bytes w32 (length entry.items)) entry.items in
    omega (arith, one, same, parts, ap length c.as_slice.ensures.value, c.requires)

pub loop-entry-preserved : goal.loop-entry-preserved
loop-entry-preserved c =
    put_more c.args.entries.now c.loop-entry.entry-index c.entry-item.result c.as_slice.result.now c.args.out.now
    c.loop-entry.out c.put_counted.new.self c.loop-entry-test.true c.entry-item.is c.as_slice.ensures.value c.loop-entry.invariant c.in_ok-put_counted.ensures.ok

pub returns : goal.returns
returns c =
    put_all c.args.entries.now c.loop-entry.entry-index c.args.out.now c.loop-entry.out c.loop-entry-test.false c.loop-entry.invariant
