-- Forms composed two by two.
use Rattle.std.proofs.Common.{◌≡◌, ℕ, zero, suc, ◌+◌, ◌≤◌, List, [], ◌∷◌, ◌++◌, length, drop, refl, ap, sym, subst, ◌∙◌, arith}
use Rattle.sporc_suffix.proofs.Common.{Mark, Keep, Remove, Insert, base_len, out_len, inserted_len, later, compose, Follow, Fits, all_inserted, later_over, Joined, pairs, runs_of}
use Rattle.sporc_xform.proofs.LawLemmas.{composes, passes_both}
use Rattle.sporc_suffix.proofs.Passing.{passes}

-- the one that has no neighbour
abbrev pub left_over : List (List Mark) → List (List Mark)
left_over [] = []
left_over (f ∷ []) = f ∷ []
left_over (f ∷ g ∷ fs) = left_over fs

pub length-pairs : (fs : List (List Mark)) → length (pairs fs) + length (pairs fs) + length (left_over fs) ≡ length fs
length-pairs (f ∷ g ∷ fs) = omega (arith, length-pairs fs)
length-pairs fs = refl

pub few_left : (fs : List (List Mark)) → length (left_over fs) ≤ 1
few_left (f ∷ g ∷ fs) = few_left fs
few_left fs = omega arith

-- ---- one form more

pub pairs-more_even : (fs : List (List Mark)) (x : List Mark) → left_over fs ≡ [] → pairs (fs ++ x ∷ []) ≡ pairs fs
pairs-more_even [] x h = refl
pairs-more_even (f ∷ []) x h = absurd cc
pairs-more_even (f ∷ g ∷ fs) x h = ap (λ gs. compose f g ∷ gs) (pairs-more_even fs x h)

pub pairs-more_odd : (fs : List (List Mark)) (x y : List Mark) → left_over fs ≡ y ∷ [] → pairs (fs ++ x ∷ []) ≡ pairs fs ++ compose y x ∷ []
pairs-more_odd [] x y h = absurd cc
pairs-more_odd (f ∷ []) x y h = let same : f ≡ y = cc in ap (λ g. compose g x ∷ []) same
pairs-more_odd (f ∷ g ∷ fs) x y h = ap (λ gs. compose f g ∷ gs) (pairs-more_odd fs x y h)

-- ---- forms that follow one another

pub joined : (base : ℕ) (fs : List (List Mark)) → Follow base fs → Joined fs
joined base [] h = tt
joined base (f ∷ fs) h = h.1

pub Follow-pairs : (base : ℕ) (fs : List (List Mark)) → Follow base fs → Follow base (pairs fs)
Follow-pairs base (f ∷ g ∷ fs) h =
    let c = composes f g (sym h.1.0) in
    (c.base ∙ h.0, subst (λ (n : ℕ). Follow n (pairs fs)) (sym c.out) (Follow-pairs (out_len g) fs h.1.1))
Follow-pairs base fs h = tt

pub Joined-pairs : (fs : List (List Mark)) → Joined fs → Joined (pairs fs)
Joined-pairs [] h = tt
Joined-pairs (f ∷ fs) h = joined (base_len f) (pairs (f ∷ fs)) (Follow-pairs (base_len f) (f ∷ fs) (refl, h))

pub Joined-runs : (level : ℕ) (fs : List (List Mark)) → Joined fs → Joined (runs_of level fs)
Joined-runs zero fs h = h
Joined-runs (suc level) fs h = Joined-pairs (runs_of level fs) (Joined-runs level fs h)

-- ---- a composition inserts no more

inserted_after : (q : List Mark) → inserted_len (compose [] q) ≤ inserted_len q
inserted_after (Insert c ∷ q) = omega (arith, inserted_after q)
inserted_after q = omega arith

inserted_remove : (p : List Mark) → ((q : List Mark) → inserted_len (compose p q) ≤ inserted_len p + inserted_len q) → (q : List Mark) → inserted_len (compose (Remove ∷ p) q) ≤ inserted_len p + inserted_len q
inserted_remove p ih [] = ih []
inserted_remove p ih (Insert c ∷ q) = omega (arith, inserted_remove p ih q)
inserted_remove p ih q = ih q

inserted_keep : (p : List Mark) → ((q : List Mark) → inserted_len (compose p q) ≤ inserted_len p + inserted_len q) → (q : List Mark) → inserted_len (compose (Keep ∷ p) q) ≤ inserted_len p + inserted_len q
inserted_keep p ih [] = omega arith
inserted_keep p ih (Insert c ∷ q) = omega (arith, inserted_keep p ih q)
inserted_keep p ih (Keep ∷ q) = ih q
inserted_keep p ih (Remove ∷ q) = ih q

inserted_insert : (c : ℕ) (p : List Mark) → ((q : List Mark) → inserted_len (compose p q) ≤ inserted_len p + inserted_len q) → (q : List Mark) → inserted_len (compose (Insert c ∷ p) q) ≤ suc (inserted_len p) + inserted_len q
inserted_insert c p ih [] = omega arith
inserted_insert c p ih (Insert d ∷ q) = omega (arith, inserted_insert c p ih q)
inserted_insert c p ih (Keep ∷ q) = omega (arith, ih q)
inserted_insert c p ih (Remove ∷ q) = omega (arith, ih q)

pub inserted_len-compose : (p q : List Mark) → inserted_len (compose p q) ≤ inserted_len p + inserted_len q
inserted_len-compose [] q = omega (arith, inserted_after q)
inserted_len-compose (Keep ∷ p) q = inserted_keep p (inserted_len-compose p) q
inserted_len-compose (Remove ∷ p) q = inserted_remove p (inserted_len-compose p) q
inserted_len-compose (Insert c ∷ p) q = inserted_insert c p (inserted_len-compose p) q

all_inserted-pairs : (fs : List (List Mark)) → all_inserted (pairs fs) ≤ all_inserted fs
all_inserted-pairs (f ∷ g ∷ fs) = omega (arith, all_inserted-pairs fs, inserted_len-compose f g)
all_inserted-pairs fs = omega arith

-- ---- a delta that passes them

pub later_over-append : (q : List Mark) (fs gs : List (List Mark)) → later_over q (fs ++ gs) ≡ later_over (later_over q fs) gs
later_over-append q [] gs = refl
later_over-append q (f ∷ fs) gs = later_over-append (later q f) fs gs

pub fits_front : (q : List Mark) (fs gs : List (List Mark)) → Fits q (fs ++ gs) → Fits q fs
fits_front q fs gs h = record { follow = follow (base_len q) fs h.follow; limit = omega (arith, h.limit, some fs) }
  where
    follow : (base : ℕ) (fs : List (List Mark)) → Follow base (fs ++ gs) → Follow base fs
    follow base [] h = tt
    follow base (f ∷ fs) h = (h.0, follow (out_len f) fs h.1)

    some : (fs : List (List Mark)) → all_inserted fs ≤ all_inserted (fs ++ gs)
    some [] = omega arith
    some (f ∷ fs) = omega (arith, some fs)

pub fits_back : (q : List Mark) (fs gs : List (List Mark)) → Fits q (fs ++ gs) → Fits (later_over q fs) gs
fits_back q [] gs h = h
fits_back q (f ∷ fs) gs h = fits_back (later q f) fs gs (passes q f (fs ++ gs) h).fits

-- two by two, and then the one that is left over
pub record ByPairs (q : List Mark) (fs : List (List Mark)) : Type 0 where
  pub fits : Fits q (pairs fs)
  pub left_fits : Fits (later_over q (pairs fs)) (left_over fs)
  pub whole : later_over (later_over q (pairs fs)) (left_over fs) ≡ later_over q fs

pub by_pairs : (q : List Mark) (fs : List (List Mark)) → Fits q fs → ByPairs q fs
by_pairs q fs h = let two = left q fs h in
    record {
      fits = record { follow = Follow-pairs (base_len q) fs h.follow; limit = omega (arith, h.limit, all_inserted-pairs fs) };
      left_fits = two.0;
      whole = two.1;
    }
  where
    left : (q : List Mark) (fs : List (List Mark)) → Fits q fs → Fits (later_over q (pairs fs)) (left_over fs) × (later_over (later_over q (pairs fs)) (left_over fs) ≡ later_over q fs)
    left q [] h = (h, refl)
    left q (f ∷ []) h = (h, refl)
    left q (f ∷ g ∷ fs) h =
        let one = passes q f (g ∷ fs) h in
        let two = passes (later q f) g fs one.fits in
        let both : later q (compose f g) ≡ later (later q f) g = passes_both f g q (sym h.follow.1.0) in
        let P : List Mark → Type 0 = λ r. Fits (later_over r (pairs fs)) (left_over fs) × (later_over (later_over r (pairs fs)) (left_over fs) ≡ later_over (later (later q f) g) fs) in
        subst P (sym both) (left (later (later q f) g) fs two.fits)

-- ---- from a place on

pub pairs-drop : (n : ℕ) (fs : List (List Mark)) → pairs (drop (n + n) fs) ≡ drop n (pairs fs)
pairs-drop n fs = go n (n + n) fs refl
  where
    go : (n m : ℕ) (fs : List (List Mark)) → m ≡ n + n → pairs (drop m fs) ≡ drop n (pairs fs)
    go zero zero fs e = refl
    go zero (suc m) fs e = absurd (omega arith)
    go (suc n) zero fs e = absurd (omega arith)
    go (suc n) (suc zero) fs e = absurd (omega arith)
    go (suc n) (suc (suc m)) [] e = refl
    go (suc n) (suc (suc m)) (f ∷ []) e = refl
    go (suc n) (suc (suc m)) (f ∷ g ∷ fs) e = go n m fs (omega arith)

-- what is left over is what stands behind all pairs
pub left_at : (n m : ℕ) (fs : List (List Mark)) → n + n ≤ length fs → m + m ≤ length fs → length fs ≤ suc (m + m) → left_over (drop (n + n) fs) ≡ drop (m + m) fs
left_at n m fs within even odd = go (n + n) (m + m) n m fs refl refl within even odd
  where
    go : (a b n m : ℕ) (fs : List (List Mark)) → a ≡ n + n → b ≡ m + m → a ≤ length fs → b ≤ length fs → length fs ≤ suc b → left_over (drop a fs) ≡ drop b fs
    go zero zero n m [] ea eb wa wb h = refl
    go zero zero n m (f ∷ []) ea eb wa wb h = refl
    go zero zero n m (f ∷ g ∷ fs) ea eb wa wb h = absurd (omega arith)
    go zero (suc zero) n m fs ea eb wa wb h = absurd (omega arith)
    go zero (suc (suc b)) n m [] ea eb wa wb h = absurd (omega arith)
    go zero (suc (suc b)) n m (f ∷ []) ea eb wa wb h = absurd (omega arith)
    go zero (suc (suc b)) n zero (f ∷ g ∷ fs) ea eb wa wb h = absurd (omega arith)
    go zero (suc (suc b)) n (suc m) (f ∷ g ∷ fs) ea eb wa wb h = go zero b n m fs ea (omega arith) (omega arith) (omega arith) (omega arith)
    go (suc zero) b n m fs ea eb wa wb h = absurd (omega arith)
    go (suc (suc a)) b n m [] ea eb wa wb h = absurd (omega arith)
    go (suc (suc a)) b n m (f ∷ []) ea eb wa wb h = absurd (omega arith)
    go (suc (suc a)) zero n m (f ∷ g ∷ fs) ea eb wa wb h = absurd (omega arith)
    go (suc (suc a)) (suc zero) n m (f ∷ g ∷ fs) ea eb wa wb h = absurd (omega arith)
    go (suc (suc a)) (suc (suc b)) zero m (f ∷ g ∷ fs) ea eb wa wb h = absurd (omega arith)
    go (suc (suc a)) (suc (suc b)) (suc n) zero (f ∷ g ∷ fs) ea eb wa wb h = absurd (omega arith)
    go (suc (suc a)) (suc (suc b)) (suc n) (suc m) (f ∷ g ∷ fs) ea eb wa wb h = go a b n m fs (omega arith) (omega arith) (omega arith) (omega arith) (omega arith)
