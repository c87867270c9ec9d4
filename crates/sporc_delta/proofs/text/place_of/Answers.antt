use Rattle.std.proofs.Common.{◌≡◌, ◌<◌, length, ap, arith}
use Rattle.sporc_delta.proofs.Common.{chars}
use Rattle.sporc_delta.proofs.Counted.{Walked-start, Walked-next, Walked-len}
use Rattle.sporc_delta.proofs.text.place_of.Goals as goal

pub loop-init : goal.loop-init
loop-init c = rw c.chars-rest.ensures.rest (Walked-start c.args.text.now c.utf8.text)

pub loop-preserved : goal.loop-preserved
loop-preserved c =
    let more : c.loop.counter < length (chars c.args.text.now) = omega arith in
    Walked-next c.args.text.now _ _ c.loop.counter c.next.result _ more c.next.ensures.steps.0 c.loop.invariant

pub overflow_sub-result : goal.overflow_sub-result
overflow_sub-result c =
    let all : c.loop.counter ≡ c.args.at = omega arith in
    omega (arith, Walked-len c.args.text.now _ c.loop.counter c.args.at all c.loop.invariant, ap length c.as_str.ensures)

pub returns : goal.returns
returns c =
    let all : c.loop.counter ≡ c.args.at = omega arith in
    record { value = omega (arith, Walked-len c.args.text.now _ c.loop.counter c.args.at all c.loop.invariant, ap length c.as_str.ensures) }
