use Rattle.std.proofs.Common.{◌≡◌, length, refl, [], ◌∷◌}
use Rattle.lms_ots.proofs.WrittenLemmas.{written_last}
use Rattle.lms_ots.proofs.coefficients.with_checksum.Goals as goal

pub returns : goal.returns
returns c =
    let two : length c.copy_from_slice-2.new.self ≡ 2 = rw (c.copy_from_slice-2.ensures.after, c.to_be_bytes.ensures) refl in
    rw (
      written_last 32 2 c.copy_from_slice.new.self (0 ∷ 0 ∷ []) c.copy_from_slice-2.new.self c.copy_from_slice.ensures.len refl two,
      c.copy_from_slice.ensures.after,
      c.copy_from_slice-2.ensures.after,
      c.to_be_bytes.ensures,
      c.checksum.ensures.value,
    ) refl
