-- A delta that passes forms one after the other.
use Rattle.std.proofs.Common.{◌≡◌, ℕ, zero, suc, ◌+◌, ◌-◌, ◌≤◌, ◌<◌, List, [], ◌∷◌, ◌++◌, length, take, drop, get_or, ap, sym, subst, ◌∙◌, arith, add-one}
use Rattle.sporc_suffix.proofs.Common.{Mark, base_len, out_len, inserted_len, later, reached, Follow, Fits}
use Rattle.std.proofs.Math.Seq.{drop-cons}
use Rattle.sporc_delta.specs.declared.limits.TheConstants.{MAX_TEXT_LEN}
use Rattle.sporc_xform.proofs.LengthLemmas.{base_len-later, inserted_len-later, out_len-le}

-- it fits the next form, and then those after it
pub record Passes (q f : List Mark) (rest : List (List Mark)) : Type 0 where
  pub base : base_len q ≡ base_len f
  pub limit : base_len f + inserted_len f + inserted_len q ≤ MAX_TEXT_LEN
  pub fits : Fits (later q f) rest

pub passes : (q f : List Mark) (rest : List (List Mark)) → Fits q (f ∷ rest) → Passes q f rest
passes q f rest fits =
    let base : base_len q ≡ base_len f = sym fits.follow.0 in
    let after : base_len (later q f) ≡ out_len f = base_len-later f q (sym base) in
    record {
      base = base;
      limit = omega (arith, fits.limit);
      fits = record {
        follow = subst (λ (n : ℕ). Follow n rest) (sym after) fits.follow.1;
        limit = omega (arith, fits.limit, inserted_len-later f q, out_len-le f);
      };
    }

-- the form at a place, and those behind it
pub form_at : (forms : List (List Mark)) (i : ℕ) (f : List Mark) → i < length forms → f ≡ get_or forms i f → drop i forms ≡ f ∷ drop (i + 1) forms
form_at forms i f within is = rw add-one (drop-cons forms i f within ∙ ap (λ g. g ∷ drop (suc i) forms) (sym is))

-- ---- the forms of a list, from a place on

pub Follow-append : (base : ℕ) (fs : List (List Mark)) (f : List Mark) → Follow base fs → base_len f ≡ reached base fs → Follow base (fs ++ f ∷ [])
Follow-append base [] f h is = (is, tt)
Follow-append base (g ∷ fs) f h is = (h.0, Follow-append (out_len g) fs f h.1 is)

pub Follow-drop : (base n : ℕ) (fs : List (List Mark)) → Follow base fs → Follow (reached base (take n fs)) (drop n fs)
Follow-drop base zero fs h = h
Follow-drop base (suc n) [] h = tt
Follow-drop base (suc n) (f ∷ fs) h = Follow-drop (out_len f) n fs h.1
