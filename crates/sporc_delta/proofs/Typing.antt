-- Deltas of short texts are typed.
use Rattle.std.proofs.Common.{◌≡◌, ℕ, zero, suc, ◌+◌, ◌-◌, ◌^◌, ◌<◌, true, ◌&&◌, List, [], ◌∷◌, ◌++◌, length, refl, sym, ap, ap₂, ◌∙◌, subst, arith, length-append, append-nil}
use Rattle.sporc_delta.proofs.Common.{w64, to_be_bytes, AllByRecursion, all_scalars, encode_utf8_all, and_parts, Part, KeepRun, InsertText, RemoveRun, delta_bytes, part_bytes, parts_bytes, Mark, Keep}
use Rattle.sporc_delta.proofs.Common.{Insert, base_len, remove_marks, insert_marks, keep_marks, marks_of, part_marks, runs, IsTypedDelta, IsTypedPart}
use Rattle.sporc_delta.specs.Marks.{Remove, insertion, removal}
use Rattle.sporc_delta.proofs.Lengths.{base_len-append, base_len-keep_marks, base_len-remove_marks}
use Rattle.sporc_delta.proofs.Runs.{marks_of-runs}

pub scalars_append : (xs ys : List ℕ) → all_scalars (xs ++ ys) ≡ (all_scalars xs && all_scalars ys)
scalars_append [] ys = refl
scalars_append (x ∷ xs) ys = grind (arith, scalars_append xs ys)

-- the characters that marks insert
abbrev pub inserted : List Mark → List ℕ
inserted [] = []
inserted (Keep ∷ ms) = inserted ms
inserted (Remove ∷ ms) = inserted ms
inserted (Insert c ∷ ms) = c ∷ inserted ms

pub inserted-append : (ms ns : List Mark) → inserted (ms ++ ns) ≡ inserted ms ++ inserted ns
inserted-append [] ns = refl
inserted-append (Keep ∷ ms) ns = inserted-append ms ns
inserted-append (Remove ∷ ms) ns = inserted-append ms ns
inserted-append (Insert c ∷ ms) ns = ap (λ (t : List ℕ). c ∷ t) (inserted-append ms ns)

pub inserted-keep_marks : (n : ℕ) → inserted (keep_marks n) ≡ []
inserted-keep_marks zero = refl
inserted-keep_marks (suc n) = inserted-keep_marks n

pub inserted-remove_marks : (n : ℕ) → inserted (remove_marks n) ≡ []
inserted-remove_marks zero = refl
inserted-remove_marks (suc n) = inserted-remove_marks n

pub inserted-insert_marks : (text : List ℕ) → inserted (insert_marks text) ≡ text
inserted-insert_marks [] = refl
inserted-insert_marks (c ∷ text) = ap (λ (t : List ℕ). c ∷ t) (inserted-insert_marks text)

-- what the makers' deltas insert
pub inserted-insertion : (len at : ℕ) (text : List ℕ) → inserted (insertion len at text) ≡ text
inserted-insertion len at text =
    inserted-append (keep_marks at ++ insert_marks text) (keep_marks (len - at))
    ∙ ap₂ (λ (a b : List ℕ). a ++ b) (inserted-append (keep_marks at) (insert_marks text) ∙ ap₂ (λ (a b : List ℕ). a ++ b) (inserted-keep_marks at) (inserted-insert_marks text)) (inserted-keep_marks (len - at))
    ∙ append-nil text

pub inserted-removal : (len at count : ℕ) → inserted (removal len at count) ≡ []
inserted-removal len at count =
    inserted-append (keep_marks at ++ remove_marks count) (keep_marks (len - (at + count)))
    ∙ ap₂ (λ (a b : List ℕ). a ++ b) (inserted-append (keep_marks at) (remove_marks count) ∙ ap₂ (λ (a b : List ℕ). a ++ b) (inserted-keep_marks at) (inserted-remove_marks count)) (inserted-keep_marks (len - (at + count)))

-- a delta of a short text, with few bytes and characters that are Unicode scalar values
pub record Fits (ms : List Mark) (bytes : List ℕ) : Type 0 where
  pub base : base_len ms < 2 ^ 64
  pub size : length bytes < 2 ^ 64
  pub scalars : all_scalars (inserted ms) ≡ true

typed_part : (p : Part) → Fits (part_marks p) (part_bytes p) → IsTypedPart p
typed_part (KeepRun n) fits = omega (arith, fits.base, base_len-keep_marks n)
typed_part (RemoveRun n) fits = omega (arith, fits.base, base_len-remove_marks n)
typed_part (InsertText text) fits = (
  omega (arith, fits.size, length-append (to_be_bytes w64 (length (encode_utf8_all text))) (encode_utf8_all text)),
  ap all_scalars (sym (inserted-insert_marks text)) ∙ fits.scalars,
)

typed_parts : (ps : List Part) → Fits (marks_of ps) (parts_bytes ps) → AllByRecursion IsTypedPart ps
typed_parts [] fits = tt
typed_parts (p ∷ ps) fits =
    let scalars = and_parts (all_scalars (inserted (part_marks p))) (all_scalars (inserted (marks_of ps)))
    (sym (scalars_append (inserted (part_marks p)) (inserted (marks_of ps))) ∙ ap all_scalars (sym (inserted-append (part_marks p) (marks_of ps))) ∙ fits.scalars) in (
      typed_part p (record {
        base = omega (arith, fits.base, base_len-append (part_marks p) (marks_of ps));
        size = omega (arith, fits.size, length-append (part_bytes p) (parts_bytes ps));
        scalars = scalars.0;
      }),
      typed_parts ps (record {
        base = omega (arith, fits.base, base_len-append (part_marks p) (marks_of ps));
        size = omega (arith, fits.size, length-append (part_bytes p) (parts_bytes ps));
        scalars = scalars.1;
      }),
    )

pub typed_delta : (ms : List Mark) → Fits ms (delta_bytes ms) → IsTypedDelta ms
typed_delta ms fits = typed_parts (runs ms) (subst (λ (ns : List Mark). Fits ns (delta_bytes ms)) (sym (marks_of-runs ms)) fits)
