use Rattle.std.proofs.Common.{◌≡◌, ◌-◌, ◌^◌, arith}
use Rattle.lms_ots.specs.OtsType.{width_of, part_count_of}
use Rattle.lms_ots.specs.Signatures.{ots_public_of}
use Rattle.lms_ots.proofs.ConcatenatedLemmas.{fed_none, fed_more}
use Rattle.lms_ots.proofs.public_key.ots_public.Goals as goal

pub parts-init : goal.parts-init
parts-init c = fed_none _ _ _ c.public_hasher-hasher.ensures

pub parts-preserved : goal.parts-preserved
parts-preserved c =
    let steps : c.greatest-greatest.result - 0 ≡ 2 ^ width_of c.args.t - 1 = omega (arith, c.greatest-greatest.ensures) in
    fed_more _ _ _ c.parts.i _ (rw (← c.secret_part-secret.ensures, ← steps) c.chain.ensures)
    (c.update.ensures _ c.parts.invariant)

pub returns : goal.returns
unfolding ots_public_of
returns c =
    let done : c.parts.i ≡ part_count_of c.args.t = omega (arith, c.p-i-end.ensures.value) in
    record { value = rw (← done) (c.finalize.ensures _ c.parts.invariant) }
