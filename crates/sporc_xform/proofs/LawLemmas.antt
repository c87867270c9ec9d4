-- The laws of the transforms, over marks.
use Rattle.std.proofs.Common.{◌≡◌, ℕ, suc, List, [], ◌∷◌, length, refl, ap, arith}
use Rattle.sporc_xform.proofs.Common.{flat_map, Mark, Keep, Remove, Insert, base_len, out_len, apply, last_steps, later_step, earlier_step, later, earlier, merged_steps, merge, compose}

-- ---- both orders lead to the merged text

-- the later delta behind the earlier one leads to the merged text
abbrev pub LaterMerges : List Mark → List Mark → List ℕ → Type 0
LaterMerges p q s = base_len p ≡ length s → base_len q ≡ length s → apply (later q p) (apply p s) ≡ merge p q s

later_last : (q : List Mark) → base_len q ≡ 0 → apply (flat_map later_step (last_steps q)) [] ≡ merged_steps (last_steps q) []
later_last (Insert c ∷ q) h = ap (λ t. c ∷ t) (later_last q h)
later_last _ h = refl

later_mark : (m : Mark) (p : List Mark) → ((q : List Mark) (s : List ℕ) → LaterMerges p q s) → (q : List Mark) (s : List ℕ) → LaterMerges (m ∷ p) q s
later_mark (Insert c) p ih q s a b = ap (λ t. c ∷ t) (ih q s a b)
later_mark m p ih q [] a b = absurd (omega arith)
later_mark m p ih [] (x ∷ s) a b = absurd (omega arith)
later_mark m p ih (Insert c ∷ q) (x ∷ s) a b = ap (λ t. c ∷ t) (later_mark m p ih q (x ∷ s) a b)
later_mark Keep p ih (Keep ∷ q) (x ∷ s) a b = ap (λ t. x ∷ t) (ih q s (omega arith) (omega arith))
later_mark m p ih (_ ∷ q) (x ∷ s) a b = ih q s (omega arith) (omega arith)

pub later_merges : (p q : List Mark) (s : List ℕ) → LaterMerges p q s
later_merges [] q [] a b = later_last q b
later_merges [] q (x ∷ s) a b = absurd (omega arith)
later_merges (m ∷ p) q s a b = later_mark m p (later_merges p) q s a b

-- and the earlier one behind the later one
abbrev pub EarlierMerges : List Mark → List Mark → List ℕ → Type 0
EarlierMerges p q s = base_len p ≡ length s → base_len q ≡ length s → apply (earlier p q) (apply q s) ≡ merge p q s

earlier_last : (q : List Mark) → base_len q ≡ 0 → apply (flat_map earlier_step (last_steps q)) (apply q []) ≡ merged_steps (last_steps q) []
earlier_last [] h = refl
earlier_last (Insert c ∷ q) h = ap (λ t. c ∷ t) (earlier_last q h)
earlier_last _ h = absurd (omega arith)

earlier_mark : (m : Mark) (p : List Mark) → ((q : List Mark) (s : List ℕ) → EarlierMerges p q s) → (q : List Mark) (s : List ℕ) → EarlierMerges (m ∷ p) q s
earlier_mark (Insert c) p ih q s a b = ap (λ t. c ∷ t) (ih q s a b)
earlier_mark m p ih q [] a b = absurd (omega arith)
earlier_mark m p ih [] (x ∷ s) a b = absurd (omega arith)
earlier_mark m p ih (Insert c ∷ q) (x ∷ s) a b = ap (λ t. c ∷ t) (earlier_mark m p ih q (x ∷ s) a b)
earlier_mark Keep p ih (Keep ∷ q) (x ∷ s) a b = ap (λ t. x ∷ t) (ih q s (omega arith) (omega arith))
earlier_mark m p ih (_ ∷ q) (x ∷ s) a b = ih q s (omega arith) (omega arith)

pub earlier_merges : (p q : List Mark) (s : List ℕ) → EarlierMerges p q s
earlier_merges [] q [] a b = earlier_last q b
earlier_merges [] q (x ∷ s) a b = absurd (omega arith)
earlier_merges (m ∷ p) q s a b = earlier_mark m p (earlier_merges p) q s a b

-- ---- a delta behind a composition is one behind each in turn

abbrev pub PassesBoth : List Mark → List Mark → List Mark → Type 0
PassesBoth p r q = out_len p ≡ base_len r → later q (compose p r) ≡ later (later q p) r

insertions_stay : (q : List Mark) → later q [] ≡ later (later q []) []
insertions_stay (Insert c ∷ q) = ap (λ ms. Insert c ∷ ms) (insertions_stay q)
insertions_stay _ = refl

passes_none : (r q : List Mark) → PassesBoth [] r q
passes_none [] q h = insertions_stay q
passes_none (Insert c ∷ r) q h = ap (λ ms. Keep ∷ ms) (passes_none r q h)
passes_none _ q h = absurd (omega arith)

-- p removes a character: r ends, or has a mark of the next one
remove_first : (p r : List Mark) → compose (Remove ∷ p) r ≡ Remove ∷ compose p r → ((q : List Mark) → PassesBoth p r q) → (q : List Mark) → PassesBoth (Remove ∷ p) r q
remove_first p (Insert c ∷ r) none ih q h = absurd cc
remove_first p r none ih [] h = refl
remove_first p r none ih (Insert c ∷ q) h = ap (λ ms. Insert c ∷ ms) (remove_first p r none ih q h)
remove_first p r none ih (_ ∷ q) h = ih q h

passes_remove : (p : List Mark) → ((r q : List Mark) → PassesBoth p r q) → (r q : List Mark) → PassesBoth (Remove ∷ p) r q
passes_remove p ih (Insert c ∷ r) q h = ap (λ ms. Keep ∷ ms) (passes_remove p ih r q h)
passes_remove p ih [] q h = remove_first p [] refl (ih []) q h
passes_remove p ih (m ∷ r) q h = remove_first p (m ∷ r) refl (ih (m ∷ r)) q h

-- p keeps a character
keep_keep : (p r : List Mark) → ((q : List Mark) → PassesBoth p r q) → (q : List Mark) → PassesBoth (Keep ∷ p) (Keep ∷ r) q
keep_keep p r ih [] h = refl
keep_keep p r ih (Insert c ∷ q) h = ap (λ ms. Insert c ∷ ms) (keep_keep p r ih q h)
keep_keep p r ih (Keep ∷ q) h = ap (λ ms. Keep ∷ ms) (ih q (omega arith))
keep_keep p r ih (Remove ∷ q) h = ap (λ ms. Remove ∷ ms) (ih q (omega arith))

keep_remove : (p r : List Mark) → ((q : List Mark) → PassesBoth p r q) → (q : List Mark) → PassesBoth (Keep ∷ p) (Remove ∷ r) q
keep_remove p r ih [] h = refl
keep_remove p r ih (Insert c ∷ q) h = ap (λ ms. Insert c ∷ ms) (keep_remove p r ih q h)
keep_remove p r ih (_ ∷ q) h = ih q (omega arith)

passes_keep : (p : List Mark) → ((r q : List Mark) → PassesBoth p r q) → (r q : List Mark) → PassesBoth (Keep ∷ p) r q
passes_keep p ih [] q h = absurd (omega arith)
passes_keep p ih (Insert c ∷ r) q h = ap (λ ms. Keep ∷ ms) (passes_keep p ih r q h)
passes_keep p ih (Keep ∷ r) q h = keep_keep p r (ih r) q h
passes_keep p ih (Remove ∷ r) q h = keep_remove p r (ih r) q h

-- p inserts one
passes_insert : (c : ℕ) (p : List Mark) → ((r q : List Mark) → PassesBoth p r q) → (r q : List Mark) → PassesBoth (Insert c ∷ p) r q
passes_insert c p ih [] q h = absurd (omega arith)
passes_insert c p ih (Insert d ∷ r) q h = ap (λ ms. Keep ∷ ms) (passes_insert c p ih r q h)
passes_insert c p ih (Keep ∷ r) q h = ap (λ ms. Keep ∷ ms) (ih r q (omega arith))
passes_insert c p ih (Remove ∷ r) q h = ih r q (omega arith)

pub passes_both : (p r q : List Mark) → PassesBoth p r q
passes_both [] r q h = passes_none r q h
passes_both (Keep ∷ p) r q h = passes_keep p (passes_both p) r q h
passes_both (Remove ∷ p) r q h = passes_remove p (passes_both p) r q h
passes_both (Insert c ∷ p) r q h = passes_insert c p (passes_both p) r q h

-- ---- the lengths of a composition, and the text after it

pub record Composes (p q : List Mark) : Type 0 where
  pub base : base_len (compose p q) ≡ base_len p
  pub out : out_len (compose p q) ≡ out_len q

composes_none : (q : List Mark) → 0 ≡ base_len q → Composes [] q
composes_none [] h = record { base = refl; out = refl }
composes_none (Insert c ∷ q) h = let r = composes_none q h in record { base = r.base; out = ap suc r.out }
composes_none _ h = absurd (omega arith)

composes_mark : (m : Mark) (p : List Mark) → ((q : List Mark) → out_len p ≡ base_len q → Composes p q) → (q : List Mark) → out_len (m ∷ p) ≡ base_len q → Composes (m ∷ p) q
composes_mark Keep p ih [] h = absurd (omega arith)
composes_mark m p ih (Insert c ∷ q) h = let r = composes_mark m p ih q h in record { base = r.base; out = ap suc r.out }
composes_mark Remove p ih q h = let r = ih q h in record { base = ap suc r.base; out = r.out }
composes_mark Keep p ih (Keep ∷ q) h = let r = ih q (omega arith) in record { base = ap suc r.base; out = ap suc r.out }
composes_mark Keep p ih (Remove ∷ q) h = let r = ih q (omega arith) in record { base = ap suc r.base; out = r.out }
composes_mark (Insert c) p ih [] h = absurd (omega arith)
composes_mark (Insert c) p ih (Keep ∷ q) h = let r = ih q (omega arith) in record { base = r.base; out = ap suc r.out }
composes_mark (Insert c) p ih (Remove ∷ q) h = let r = ih q (omega arith) in record { base = r.base; out = r.out }

pub composes : (p q : List Mark) → out_len p ≡ base_len q → Composes p q
composes [] q h = composes_none q h
composes (m ∷ p) q h = composes_mark m p (composes p) q h
