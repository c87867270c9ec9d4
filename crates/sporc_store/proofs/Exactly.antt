-- Verdicts on entries, one after another.
use Rattle.std.proofs.Common.{◌≡◌, ℕ, zero, suc, ◌+◌, ◌<◌, ◌≤◌, List, [], ◌∷◌, ◌++◌, length, take, get_or, Option, refl, sym, ap, ◌∙◌, subst, arith}
use Rattle.sporc_store.proofs.Common.{IfSome, get_or-take, length-take-le, take_all, take_more, Verdict, AreExact}
use Rattle.sporc_head.specs.Examined.{IsExact}

-- those on some entries, and those on others behind them
pub exact_both : (vs ws : List (Option Verdict)) (es fs : List (List ℕ)) → AreExact vs es → AreExact ws fs → AreExact (vs ++ ws) (es ++ fs)
exact_both [] ws [] fs one two = two
exact_both (v ∷ vs) ws (e ∷ es) fs one two = (one.0, exact_both vs ws es fs one.1 two)
exact_both vs ws es fs one two = absurd one

-- one more
pub exact_more : (vs ws : List (Option Verdict)) (es : List (List ℕ)) (i : ℕ) (v : Option Verdict) (e : List ℕ) → ws ≡ vs ++ v ∷ [] → i < length es → e ≡ get_or es i e
    → AreExact vs (take i es) → IfSome v (λ verdict. IsExact verdict e) → AreExact ws (take (i + 1) es)
exact_more vs ws es i v e pushed lt at so_far one =
    let next : take (i + 1) es ≡ take i es ++ e ∷ [] = take_more es i e lt ∙ ap (λ (x : List ℕ). take i es ++ x ∷ []) (sym at) in
    subst (λ (l : List (Option Verdict)). AreExact l (take (i + 1) es)) (sym pushed)
    (subst (λ (l : List (List ℕ)). AreExact (vs ++ v ∷ []) l) (sym next) (exact_both vs (v ∷ []) (take i es) (e ∷ []) so_far (one, tt)))

-- all of them
pub exact_all : (vs : List (Option Verdict)) (es : List (List ℕ)) (i : ℕ) → length es ≤ i → AreExact vs (take i es) → AreExact vs es
exact_all vs es i le so_far = subst (AreExact vs) (take_all i es le) so_far

pub exact_len : (vs : List (Option Verdict)) (es : List (List ℕ)) → AreExact vs es → length vs ≡ length es
exact_len [] [] exact = refl
exact_len (v ∷ vs) (e ∷ es) exact = ap suc (exact_len vs es exact.1)
exact_len vs es exact = absurd exact

-- that on the entry at a place
pub exact_at : (vs : List (Option Verdict)) (es : List (List ℕ)) (i : ℕ) (v : Option Verdict) (e : List ℕ) → AreExact vs es → i < length es → IfSome (get_or vs i v) (λ verdict. IsExact verdict (get_or es i e))
exact_at [] [] i v e exact lt = absurd (omega arith)
exact_at (w ∷ vs) (f ∷ es) zero v e exact lt = exact.0
exact_at (w ∷ vs) (f ∷ es) (suc i) v e exact lt = exact_at vs es i v e exact.1 (omega arith)
exact_at vs es i v e exact lt = absurd exact

-- those on the first few of some entries
pub exact_first : (vs : List (Option Verdict)) (es : List (List ℕ)) (n i : ℕ) (v : Option Verdict) (e : List ℕ) → AreExact vs (take n es) → n ≤ length es → i < n
    → IfSome (get_or vs i v) (λ verdict. IsExact verdict (get_or es i e))
exact_first vs es n i v e exact le lt =
    let within : i < length (take n es) = omega (arith, length-take-le n es le, lt) in
    subst (λ (x : List ℕ). IfSome (get_or vs i v) (λ verdict. IsExact verdict x)) (get_or-take n es i e lt) (exact_at vs (take n es) i v e exact within)

pub exact_count : (vs : List (Option Verdict)) (es : List (List ℕ)) (n : ℕ) → AreExact vs (take n es) → n ≤ length es → length vs ≡ n
exact_count vs es n exact le = exact_len vs (take n es) exact ∙ length-take-le n es le
