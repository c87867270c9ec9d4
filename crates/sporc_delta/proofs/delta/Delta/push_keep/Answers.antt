use Rattle.std.proofs.Common.{◌≡◌, ◌+◌, arith, ap}
use Rattle.sporc_delta.proofs.Common.{base_len, out_len, keep_marks, marks_of}
use Rattle.sporc_delta.proofs.Lengths.{base_len-keep_marks, out_len-keep_marks}
use Rattle.sporc_delta.proofs.Sound.{DeltaInvariant-more}
use Rattle.sporc_delta.proofs.delta.Delta.push_keep.Goals as goal

pub invariant_of-self-2 : goal.invariant_of-self-2
invariant_of-self-2 c =
    let b = base_len-keep_marks (c.args.count) in
    let o = out_len-keep_marks (c.args.count) in
    let base_is : c.self.inside.base ≡ base_len (marks_of c.self.inside.parts.items) = c.self.invariant.base_is in
    let out_is : c.self.inside.out ≡ out_len (marks_of c.self.inside.parts.items) = c.self.invariant.out_is in
    let base_seen = ap base_len c.self.view_is in
    let out_seen = ap out_len c.self.view_is in
    DeltaInvariant-more c.self.inside.parts.items c.append_keep.new.parts.items c.self.inside.base c.self.inside.out (c.self.inside.base + c.args.count) (c.self.inside.out + c.args.count) c.args.self.now (keep_marks c.args.count)
    c.self.invariant c.self.view_is c.in_ok-append_keep.ensures.ok (omega arith) (omega arith) (omega arith) (omega arith)
