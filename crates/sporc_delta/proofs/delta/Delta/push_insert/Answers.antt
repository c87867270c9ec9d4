use Rattle.std.proofs.Common.{◌≡◌, ◌+◌, arith, ap}
use Rattle.sporc_delta.proofs.Common.{base_len, out_len, insert_marks, marks_of}
use Rattle.sporc_delta.proofs.Lengths.{base_len-insert_marks, out_len-insert_marks}
use Rattle.sporc_delta.proofs.Sound.{DeltaInvariant-more}
use Rattle.sporc_delta.proofs.delta.Delta.push_insert.Goals as goal

pub invariant_of-self-2 : goal.invariant_of-self-2
invariant_of-self-2 c =
    let b = base_len-insert_marks (c.args.text.now) in
    let o = out_len-insert_marks (c.args.text.now) in
    let base_is : c.self.inside.base ≡ base_len (marks_of c.self.inside.parts.items) = c.self.invariant.base_is in
    let out_is : c.self.inside.out ≡ out_len (marks_of c.self.inside.parts.items) = c.self.invariant.out_is in
    let base_seen = ap base_len c.self.view_is in
    let out_seen = ap out_len c.self.view_is in
    DeltaInvariant-more c.self.inside.parts.items c.append_text.new.parts.items c.self.inside.base c.self.inside.out (c.self.inside.base) (c.self.inside.out + c.len.result) c.args.self.now (insert_marks c.args.text.now)
    c.self.invariant c.self.view_is c.in_ok-append_text.ensures.ok (omega arith) (omega arith) (omega arith) (omega arith)
