use Rattle.std.proofs.Common.{◌∙◌, take, sym, arith}
use Rattle.std.proofs.lemmas.List.{length-take}
use Rattle.lms_leaf.proofs.TakenBlocks.{taken_blocks-zero_more, taken_blocks-other_more, taken_blocks-≤}
use Rattle.lms_leaf.proofs.leaf_file.taken_of.Goals as goal
use Rattle.lms_leaf.proofs.leaf_file.taken_of.Goals.{then-byte-ne0, else-byte-ne0}

pub loop-i-preserved : goal.loop-i-preserved
loop-i-preserved c =
    let bytes = c.args.bytes.now in
    elim c.if-byte-ne0.branch [
      | then-byte-ne0 w ↦ w.taken-is ∙ sym (taken_blocks-other_more bytes c.loop-i.i c.loop-i-test.true w.if-byte-ne0.true)
      | else-byte-ne0 w ↦
          w.taken-is ∙ c.loop-i.invariant ∙ sym (taken_blocks-zero_more bytes c.loop-i.i c.loop-i-test.true w.if-byte-ne0.false)
    ]

pub returns-clause-within : goal.returns-clause-within
returns-clause-within c =
    let front = take c.loop-i.i c.args.bytes.now in
    rw c.loop-i.invariant (omega (arith, taken_blocks-≤ front, length-take c.loop-i.i c.args.bytes.now))
