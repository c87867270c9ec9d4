-- Deltas that keep another count at one of their ends.
use Rattle.std.proofs.Common.{◌≡◌, ℕ, zero, suc, ◌+◌, ◌-◌, ◌<◌, ◌≤◌, List, [], ◌∷◌, ◌++◌, length, drop, take, set, refl, ap, sym, subst, ◌∙◌, arith}
use Rattle.sporc_delta.proofs.Common.{append-nil, drop_at, length-append, length-replicate, take_at, MAX_TEXT_LEN, Part, KeepRun, First, Last, Mark, Keep, base_len, out_len}
use Rattle.sporc_delta.proofs.Common.{keep_marks, AreRuns, DeltaInvariant, kept_at_end, marks_of, runs, CanShift, Shifts, count_of, kept_at_start, kept_first, kept_last, kept_there, shifted}
use Rattle.sporc_delta.specs.declared.shift.Shift.{Shift}
use Rattle.sporc_delta.proofs.Appended.{AreRuns-grown, kept_end, marks_of-last, set_last}
use Rattle.sporc_delta.proofs.Lengths.{base_len-append, base_len-keep_marks, out_len-append, out_len-keep_marks}
use Rattle.sporc_delta.proofs.Runs.{marks_of-runs, runs-marks_of}

-- ---- over marks

-- what stands behind the characters that are kept first
pub record BeginsWith (ms : List Mark) (k : ℕ) : Type 0 where
  pub rest : List Mark
  pub is : ms ≡ keep_marks k ++ rest

first_of_parts : (ms : List Mark) (ps : List Part) → marks_of ps ≡ ms → BeginsWith ms (kept_at_start ps)
first_of_parts ms (KeepRun n ∷ ps) e = record { rest = marks_of ps; is = sym e }
first_of_parts ms ps e = record { rest = ms; is = refl }

pub begins_with : (ms : List Mark) → BeginsWith ms (kept_first ms)
begins_with ms = first_of_parts ms (runs ms) (marks_of-runs ms)

-- what stands in front of the characters that are kept last
pub record EndsWith (ms : List Mark) (k : ℕ) : Type 0 where
  pub front : List Mark
  pub is : ms ≡ front ++ keep_marks k

last_of_parts : (ms : List Mark) (ps : List Part) (k : ℕ) → marks_of ps ≡ ms → k ≡ kept_at_end ps → EndsWith ms k
last_of_parts ms ps zero e is = record { front = ms; is = sym (append-nil ms) }
last_of_parts ms ps (suc k) e is =
    let end = kept_end ps (suc k) is (omega arith) in
    record { front = marks_of end.front; is = sym e ∙ ap marks_of end.is ∙ marks_of-last end.front (KeepRun (suc k)) }

pub ends_with : (ms : List Mark) → EndsWith ms (kept_last ms)
ends_with ms = last_of_parts ms (runs ms) (kept_last ms) (marks_of-runs ms) refl

-- another count there
replace_first : (ms rest : List Mark) (k n : ℕ) → ms ≡ keep_marks k ++ rest → keep_marks n ++ drop k ms ≡ keep_marks n ++ rest
replace_first ms rest k n is = ap (λ (l : List Mark). keep_marks n ++ drop k l) is ∙ ap (λ (l : List Mark). keep_marks n ++ l) (drop_at (keep_marks k) rest k (length-replicate k Keep))

replace_last : (ms front : List Mark) (k n : ℕ) → ms ≡ front ++ keep_marks k → take (length ms - k) ms ++ keep_marks n ≡ front ++ keep_marks n
replace_last ms front k n is =
    let len : length front ≡ length ms - k = omega (arith, ap length is, length-append front (keep_marks k), length-replicate k Keep) in
    ap (λ (l : List Mark). take (length ms - k) l ++ keep_marks n) is ∙ ap (λ (l : List Mark). l ++ keep_marks n) (take_at front (keep_marks k) (length ms - k) len)

pub shifted_first : (ms rest : List Mark) (n : ℕ) → ms ≡ keep_marks (kept_first ms) ++ rest → shifted (First n) ms ≡ keep_marks n ++ rest
shifted_first ms rest n is = replace_first ms rest (kept_first ms) n is

pub shifted_last : (ms front : List Mark) (n : ℕ) → ms ≡ front ++ keep_marks (kept_last ms) → shifted (Last n) ms ≡ front ++ keep_marks n
shifted_last ms front n is = replace_last ms front (kept_last ms) n is

-- ---- lengths

pub record ShiftedLengths (shift : Shift) (ms : List Mark) : Type 0 where
  pub base : base_len (shifted shift ms) + kept_there shift (runs ms) ≡ base_len ms + count_of shift
  pub out : out_len (shifted shift ms) + kept_there shift (runs ms) ≡ out_len ms + count_of shift
  pub in_base : kept_there shift (runs ms) ≤ base_len ms
  pub in_out : kept_there shift (runs ms) ≤ out_len ms

-- marks that keep so many, and what stands beside these
shifted_by : (shift : Shift) (ms beside : List Mark) (keeps : ℕ → List Mark) → ((k : ℕ) → (base_len (keeps k) ≡ k + base_len beside) × (out_len (keeps k) ≡ k + out_len beside))
    → ms ≡ keeps (kept_there shift (runs ms)) → shifted shift ms ≡ keeps (count_of shift) → ShiftedLengths shift ms
shifted_by shift ms beside keeps len was now =
    let old = len (kept_there shift (runs ms)) in
    let new = len (count_of shift) in
    let base = ap base_len was ∙ old.0 in
    let out = ap out_len was ∙ old.1 in
    record { base = omega (arith, base, ap base_len now, new.0); out = omega (arith, out, ap out_len now, new.1); in_base = omega (arith, base); in_out = omega (arith, out) }

pub shifted_lengths : (shift : Shift) (ms : List Mark) → ShiftedLengths shift ms
shifted_lengths (First n) ms =
    let begin = begins_with ms in
    shifted_by (First n) ms begin.rest (λ k. keep_marks k ++ begin.rest) (λ k. (rw (base_len-append, base_len-keep_marks) refl, rw (out_len-append, out_len-keep_marks) refl))
    begin.is (shifted_first ms begin.rest n begin.is)
shifted_lengths (Last n) ms =
    let end = ends_with ms in
    shifted_by (Last n) ms end.front (λ k. end.front ++ keep_marks k) (λ k. (rw (base_len-append, base_len-keep_marks) (omega arith), rw (out_len-append, out_len-keep_marks) (omega arith)))
    end.is (shifted_last ms end.front n end.is)

-- ---- over parts

-- the place of the part that keeps there
abbrev IsPlaceOf : Shift → List Part → ℕ → Type 0
IsPlaceOf (First n) ps place = place ≡ 0
IsPlaceOf (Last n) ps place = place ≡ length ps - 1

unlike_keep : (m n : ℕ) (ps : List Part) → AreRuns (KeepRun m ∷ ps) → 0 < n → AreRuns (KeepRun n ∷ ps)
unlike_keep m n [] h some = (some, tt, tt)
unlike_keep m n (KeepRun k ∷ ps) h some = absurd cc
unlike_keep m n ps h some = (some, refl, h.2)

first_put : (ps : List Part) (n : ℕ) → 0 < n → 0 < kept_at_start ps → Shifts (First n) ps (set ps 0 (KeepRun n))
first_put (KeepRun k ∷ ps) n some kept = record {
  are_runs = λ h. unlike_keep k n ps h some;
  marks = λ h.
      let same : kept_first (marks_of (KeepRun k ∷ ps)) ≡ k = ap kept_at_start (runs-marks_of (KeepRun k ∷ ps) h) in
      sym (shifted_first (marks_of (KeepRun k ∷ ps)) (marks_of ps) n (ap (λ (m : ℕ). keep_marks m ++ marks_of ps) (sym same)));
}
first_put ps n some kept = absurd (omega arith)

last_put : (ps : List Part) (len n : ℕ) → len ≡ length ps → 0 < n → 0 < kept_at_end ps → Shifts (Last n) ps (set ps (len - 1) (KeepRun n))
last_put ps len n all some kept =
    let k = kept_at_end ps in
    let end = kept_end ps (kept_at_end ps) refl kept in
    let new : set ps (length ps - 1) (KeepRun n) ≡ end.front ++ KeepRun n ∷ [] = set_last end.front (KeepRun (kept_at_end ps)) (KeepRun n) ps end.is in
    rw (all, new) record {
      are_runs = λ h. AreRuns-grown end.front (KeepRun (kept_at_end ps)) (KeepRun n) refl some (subst AreRuns end.is h);
      marks = λ h.
          let same : kept_last (marks_of ps) ≡ kept_at_end ps = ap kept_at_end (runs-marks_of ps h) in
          let is : marks_of ps ≡ marks_of end.front ++ keep_marks (kept_last (marks_of ps)) =
          ap marks_of end.is ∙ marks_of-last end.front (KeepRun (kept_at_end ps)) ∙ ap (λ (m : ℕ). marks_of end.front ++ keep_marks m) (sym same) in
          marks_of-last end.front (KeepRun n) ∙ sym (shifted_last (marks_of ps) (marks_of end.front) n is);
    }

pub put_there : (shift kind : Shift) (ps : List Part) (place : ℕ) → shift ≡ kind → IsPlaceOf kind ps place → 0 < count_of shift → 0 < kept_there shift ps → Shifts shift ps (set ps place (KeepRun (count_of kind)))
put_there shift kind ps place is here some kept =
    let Q : Shift → Type 0 = λ s. Shifts s ps (set ps place (KeepRun (count_of kind))) in
    let known = subst (λ (s : Shift). (0 < count_of s) × (0 < kept_there s ps)) is (some, kept) in
    subst Q (sym is) (by_kind kind known.0 known.1 here)
  where
    by_kind : (kind : Shift) → 0 < count_of kind → 0 < kept_there kind ps → IsPlaceOf kind ps place → Shifts kind ps (set ps place (KeepRun (count_of kind)))
    by_kind (First n) some kept here = rw here (first_put ps n some kept)
    by_kind (Last n) some kept here = rw here (last_put ps (length ps) n refl some kept)

-- ---- a delta

-- its parts are those of the delta that is seen
pub kept_of_parts : (shift : Shift) (parts : List Part) (seen : List Mark) → AreRuns parts → marks_of parts ≡ seen → kept_there shift (runs seen) ≡ kept_there shift parts
kept_of_parts shift parts seen h view = ap (λ (ms : List Mark). kept_there shift (runs ms)) (sym view) ∙ ap (kept_there shift) (runs-marks_of parts h)

pub record FitsShift (shift : Shift) (parts : List Part) (base out : ℕ) : Type 0 where
  pub kept : 0 < kept_there shift parts
  pub in_base : kept_there shift parts ≤ base
  pub in_out : kept_there shift parts ≤ out
  pub base_limit : base - kept_there shift parts + count_of shift ≤ MAX_TEXT_LEN
  pub out_limit : out - kept_there shift parts + count_of shift ≤ MAX_TEXT_LEN

pub fits_shift : (shift : Shift) (parts : List Part) (base out : ℕ) (seen : List Mark) → DeltaInvariant parts base out → marks_of parts ≡ seen → CanShift shift seen
    → FitsShift shift parts base out
fits_shift shift parts base out seen sound view can =
    let kept = kept_of_parts shift parts seen sound.are_runs view in
    let lens = shifted_lengths shift seen in
    let b = sound.base_is ∙ ap base_len view in
    let o = sound.out_is ∙ ap out_len view in
    record {
      kept = omega (arith, can.kept, kept);
      in_base = omega (arith, kept, b, lens.in_base);
      in_out = omega (arith, kept, o, lens.in_out);
      base_limit = omega (arith, kept, b, lens.base, lens.in_base, can.base);
      out_limit = omega (arith, kept, o, lens.out, lens.in_out, can.out);
    }

pub DeltaInvariant-shifted : (shift : Shift) (old new : List Part) (base out base' out' : ℕ) (seen : List Mark) → DeltaInvariant old base out → marks_of old ≡ seen → CanShift shift seen
    → Shifts shift old new → base' ≡ base - kept_there shift old + count_of shift → out' ≡ out - kept_there shift old + count_of shift → DeltaInvariant new base' out'
DeltaInvariant-shifted shift old new base out base' out' seen sound view can shifts b o =
    let fits = fits_shift shift old base out seen sound view can in
    let kept = kept_of_parts shift old seen sound.are_runs view in
    let lens = shifted_lengths shift seen in
    let marks : marks_of new ≡ shifted shift seen = shifts.marks sound.are_runs ∙ ap (shifted shift) view in
    let base_was = sound.base_is ∙ ap base_len view in
    let out_was = sound.out_is ∙ ap out_len view in
    record {
      are_runs = shifts.are_runs sound.are_runs;
      base_is = omega (arith, b, kept, base_was, lens.base, lens.in_base, ap base_len marks);
      out_is = omega (arith, o, kept, out_was, lens.out, lens.in_out, ap out_len marks);
      base_limit = omega (arith, b, fits.base_limit);
      out_limit = omega (arith, o, fits.out_limit);
    }
