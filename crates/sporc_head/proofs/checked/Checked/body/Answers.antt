use Rattle.std.proofs.Common.{length, drop, ap, arith, length-drop}
use Rattle.sporc_head.proofs.Common.{length-take}
use Rattle.sporc_entry.specs.Version.{body_place}
use Rattle.sporc_entry.proofs.ViewLaws.{view_bound}
use Rattle.sporc_head.specs.CheckedModel.{entry_in}
use Rattle.sporc_head.proofs.checked.Checked.body.Goals as goal

pub part_of-requires : goal.part_of-requires
part_of-requires c =
    let i = c.self.inside in
    let bound = view_bound (entry_in i) i.bytes c.self.invariant.entry c.self.invariant.spelled in
    omega (
      arith,
      ap length c.as_slice.ensures.value,
      c.body_at.ensures.value,
      bound,
      length-take i.body_len (drop (body_place i.header.version) i.bytes),
      length-drop (body_place i.header.version) i.bytes,
    )
