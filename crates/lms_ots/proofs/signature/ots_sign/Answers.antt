use Rattle.std.proofs.Common.{◌≡◌, ◌-◌, ◌++◌, arith, rules, length, w32}
use Rattle.std.specs.Int.{to_be_bytes}
use Rattle.lms_ots.specs.OtsType.{width_of, part_count_of, ots_code_of}
use Rattle.lms_ots.specs.Coefficients.{coef_of}
use Rattle.lms_ots.specs.Signatures.{ots_signature_of, signed_part}
use Rattle.lms_ots.proofs.ConcatenatedLemmas.{concatenated_none, concatenated_more}
use Rattle.lms_ots.proofs.SignatureLemmas.{signatures_lead}
use Rattle.lms_ots.proofs.signature.ots_sign.Goals as goal

pub parts-init : goal.parts-init
parts-init c =
    rw (
      c.in_ok-extend_from_slice-2.ensures.items,
      c.in_ok-extend_from_slice.ensures.items,
      c.in_ok-signature.ensures.items,
      c.to_be_bytes.ensures,
      c.code.ensures.value,
    ) (concatenated_none _ _)

pub parts-preserved : goal.parts-preserved
parts-preserved c =
    let from = rw c.w-w.ensures.value at c.coef-steps.ensures.value in
    let steps : c.coef-steps.result - 0 ≡ coef_of c.with_checksum-string.result c.parts.i (width_of c.args.t) = omega (arith, from) in
    let part = signed_part c.args.t c.args.id.now c.args.q c.args.seed.now c.with_checksum-string.result in
    concatenated_more (to_be_bytes w32 (ots_code_of c.args.t) ++ c.args.c.now) part c.parts.i _ _ _ c.parts.invariant c.in_ok-extend_from_slice-3.ensures.items
    (rw (← steps, ← c.secret_part.ensures) c.chain-part.ensures)

abbrev signed : (c : goal.After-parts) → c.parts.signature.items ≡ ots_signature_of c.args.t c.args.id.now c.args.q c.args.seed.now c.args.c.now c.args.message.now
unfolding ots_signature_of
signed c =
    let done : c.parts.i ≡ part_count_of c.args.t = omega (arith, c.p-i-end.ensures.value) in
    rw (← done, ← c.message_digest.ensures, ← c.with_checksum-string.ensures) c.parts.invariant

pub returns-clause-value : goal.returns-clause-value
returns-clause-value c = signed c

pub returns-clause-leads_to_public : goal.returns-clause-leads_to_public
returns-clause-leads_to_public c =
    let size : length c.args.c.now ≡ 32 = search rules in
    rw (signed c) (signatures_lead _ _ _ _ _ _ size)
