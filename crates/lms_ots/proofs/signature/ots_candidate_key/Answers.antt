use Rattle.std.proofs.Common.{◌≡◌, ◌-◌, ◌^◌, arith}
use Rattle.lms_ots.specs.OtsType.{width_of, part_count_of}
use Rattle.lms_ots.specs.Signatures.{candidate_key}
use Rattle.lms_ots.proofs.ConcatenatedLemmas.{fed_none, fed_more}
use Rattle.lms_ots.proofs.SignatureLemmas.{ended_is}
use Rattle.lms_ots.proofs.signature.ots_candidate_key.Goals as goal

pub parts-init : goal.parts-init
parts-init c = fed_none _ _ _ c.public_hasher-hasher.ensures

pub parts-preserved : goal.parts-preserved
parts-preserved c =
    let wrote = c.copy_from_slice.ensures.after in
    let from = rw c.w-w.ensures.value at c.coef-from.ensures.value in
    let steps : c.greatest-greatest.result - c.coef-from.result ≡ 2 ^ width_of c.args.t - 1 - c.coef-from.result =
    omega (arith, c.greatest-greatest.ensures) in
    let here = rw steps at c.chain.ensures in
    fed_more _ _ _ c.parts.i _ (ended_is _ _ _ _ _ _ _ _ _ _ from (omega arith) wrote here) (c.update.ensures _ c.parts.invariant)

pub returns : goal.returns
unfolding candidate_key
returns c =
    let done : c.parts.i ≡ part_count_of c.args.t = omega (arith, c.p-i-end.ensures.value) in
    record { value = rw (← done, ← c.message_digest-digest.ensures, ← c.with_checksum-string.ensures) (c.finalize.ensures _ c.parts.invariant) }
