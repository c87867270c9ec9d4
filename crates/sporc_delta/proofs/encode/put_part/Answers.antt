use Rattle.std.proofs.Common.{◌≡◌, ◌<◌, ◌^◌, length, true, sym, ap, subst, ◌∙◌, arith}
use Rattle.sporc_delta.proofs.Common.{scalars-chars, all_scalars, encode_utf8_all, Part, IsTypedPart}
use Rattle.sporc_delta.proofs.encode.put_part.Goals as goal

pub returns-in_ok-extend_from_slice-in-Insert-clause-typed : goal.returns-in_ok-extend_from_slice-in-Insert-clause-typed
returns-in_ok-extend_from_slice-in-Insert-clause-typed c =
    let scalars : all_scalars c.in-Insert.text ≡ true = ap all_scalars (sym c.as_str.ensures.characters) ∙ scalars-chars c.as_str.result.now c.as_str.utf8 in
    let size : length (encode_utf8_all c.in-Insert.text) < 2 ^ 64 = omega (arith, ap length c.as_str.ensures.bytes, c.as_bytes-text.ensures.len) in
    let P : Part → Type 0 = λ part. IsTypedPart part in
    subst P (sym c.in-Insert.is) (size, scalars)
