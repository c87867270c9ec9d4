-- What a delta keeps of its parts, as they grow at the end.
use Rattle.std.proofs.Common.{◌≡◌, ℕ, ◌+◌, ◌≤◌, List, refl, ap, ◌∙◌, arith}
use Rattle.sporc_delta.proofs.Common.{MAX_TEXT_LEN, Part, Mark, base_len, out_len, marks_of, DeltaInvariant, Appends}
use Rattle.sporc_delta.proofs.Lengths.{base_len-append, out_len-append}

-- the lengths after these marks, where the delta before is seen as `seen`
pub DeltaInvariant-more : (old new : List Part) (base out base' out' : ℕ) (seen more : List Mark) → DeltaInvariant old base out → marks_of old ≡ seen → Appends old new more
    → base' ≡ base + base_len more → out' ≡ out + out_len more → base_len seen + base_len more ≤ MAX_TEXT_LEN → out_len seen + out_len more ≤ MAX_TEXT_LEN → DeltaInvariant new base' out'
DeltaInvariant-more old new base out base' out' seen more sound view grows b o small_base small_out =
    let base_old : base ≡ base_len seen = sound.base_is ∙ ap base_len view in
    let out_old : out ≡ out_len seen = sound.out_is ∙ ap out_len view in
    record {
      are_runs = grows.are_runs sound.are_runs;
      base_is = rw (grows.marks, base_len-append, b, sound.base_is) refl;
      out_is = rw (grows.marks, out_len-append, o, sound.out_is) refl;
      base_limit = omega arith;
      out_limit = omega arith;
    }
