-- Forms one after another: the first of them, one of them, those from a place on.
use Rattle.std.proofs.Common.{◌≡◌, ◌+◌, ◌≤◌, ℕ, zero, suc, List, [], ◌∷◌, ◌++◌, Some, take, drop, refl, subst, arith}
use Rattle.sporc_suffix.proofs.Common.{slice_get, Mark, base_len, out_len, Follow, all_inserted, reached}

pub reached-append : (base : ℕ) (fs gs : List (List Mark)) → reached base (fs ++ gs) ≡ reached (reached base fs) gs
reached-append base [] gs = refl
reached-append base (f ∷ fs) gs = reached-append (out_len f) fs gs

pub Follow-take : (base n : ℕ) (fs : List (List Mark)) → Follow base fs → Follow base (take n fs)
Follow-take base (suc n) (f ∷ fs) h = (h.0, Follow-take (out_len f) n fs h.1)
Follow-take base n fs h = tt

pub Follow-at : (base : ℕ) (forms : List (List Mark)) (i : ℕ) (f : List Mark) → Follow base forms → slice_get forms i ≡ Some f → base_len f ≡ reached base (take i forms)
Follow-at base [] i f h at = absurd cc
Follow-at base (g ∷ gs) zero f h at = let same : g ≡ f = cc in subst (λ (f : List Mark). base_len f ≡ base) same h.0
Follow-at base (g ∷ gs) (suc i) f h at = Follow-at (out_len g) gs i f h.1 at

-- ---- what they insert

pub all_inserted-append : (fs gs : List (List Mark)) → all_inserted (fs ++ gs) ≡ all_inserted fs + all_inserted gs
all_inserted-append [] gs = omega arith
all_inserted-append (f ∷ fs) gs = omega (arith, all_inserted-append fs gs)

pub all_inserted-drop : (forms : List (List Mark)) (i : ℕ) → all_inserted (drop i forms) ≤ all_inserted forms
all_inserted-drop forms zero = omega arith
all_inserted-drop [] (suc i) = omega arith
all_inserted-drop (f ∷ fs) (suc i) = omega (arith, all_inserted-drop fs i)
