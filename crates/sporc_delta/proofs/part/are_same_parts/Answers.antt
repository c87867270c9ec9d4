use Rattle.std.proofs.Common.{◌<◌, length, arith, sym, ◌∙◌}
use Rattle.sporc_delta.proofs.Common.{same_part}
use Rattle.sporc_delta.proofs.SameLists.{one_more_different}
use Rattle.sporc_delta.proofs.part.are_same_parts.Goals as goal

pub returns-then-not-is_same : goal.returns-then-not-is_same
returns-then-not-is_same c =
    let in_b : c.loop-i.i < length c.args.b.now = omega (arith, c.loop-i.invariant.lengths, c.loop-i-test.true) in
    record { value = sym (sym c.loop-i.invariant.rest ∙ one_more_different same_part _ _ _ _ _ c.loop-i-test.true in_b c.index-a-i.is c.index-b-i.is (sym c.is_same.ensures.value ∙ c.if-not-is_same.true)) }
