-- Two deltas in one lead to the text after both.
use Rattle.std.proofs.Common.{◌≡◌, ℕ, suc, List, [], ◌∷◌, length, refl, ap, arith}
use Rattle.sporc_xform.proofs.Common.{Mark, Keep, Remove, Insert, apply, base_len, out_len, compose}

abbrev Leads : List Mark → List Mark → List ℕ → Type 0
Leads p q s = apply (compose p q) s ≡ apply q (apply p s)

leads_none : (q : List Mark) → 0 ≡ base_len q → Leads [] q []
leads_none [] h = refl
leads_none (Insert c ∷ q) h = ap (λ (t : List ℕ). c ∷ t) (leads_none q h)
leads_none _ h = absurd (omega arith)

leads_remove : (p : List Mark) (c : ℕ) (s : List ℕ) → ((q : List Mark) → out_len p ≡ base_len q → Leads p q s) → (q : List Mark) → out_len p ≡ base_len q → Leads (Remove ∷ p) q (c ∷ s)
leads_remove p c s ih [] h = ih [] h
leads_remove p c s ih (Insert d ∷ q) h = ap (λ (t : List ℕ). d ∷ t) (leads_remove p c s ih q h)
leads_remove p c s ih q h = ih q h

leads_keep : (p : List Mark) (c : ℕ) (s : List ℕ) → ((q : List Mark) → out_len p ≡ base_len q → Leads p q s) → (q : List Mark) → suc (out_len p) ≡ base_len q → Leads (Keep ∷ p) q (c ∷ s)
leads_keep p c s ih [] h = absurd (omega arith)
leads_keep p c s ih (Insert d ∷ q) h = ap (λ (t : List ℕ). d ∷ t) (leads_keep p c s ih q h)
leads_keep p c s ih (Keep ∷ q) h = ap (λ (t : List ℕ). c ∷ t) (ih q (omega arith))
leads_keep p c s ih (Remove ∷ q) h = ih q (omega arith)

leads_insert : (c : ℕ) (p : List Mark) (s : List ℕ) → ((q : List Mark) → out_len p ≡ base_len q → Leads p q s) → (q : List Mark) → suc (out_len p) ≡ base_len q → Leads (Insert c ∷ p) q s
leads_insert c p s ih [] h = absurd (omega arith)
leads_insert c p s ih (Insert d ∷ q) h = ap (λ (t : List ℕ). d ∷ t) (leads_insert c p s ih q h)
leads_insert c p s ih (Keep ∷ q) h = ap (λ (t : List ℕ). c ∷ t) (ih q (omega arith))
leads_insert c p s ih (Remove ∷ q) h = ih q (omega arith)

pub apply-compose : (p q : List Mark) (s : List ℕ) → base_len p ≡ length s → out_len p ≡ base_len q → apply (compose p q) s ≡ apply q (apply p s)
apply-compose [] q [] base h = leads_none q h
apply-compose (Insert c ∷ p) q s base h = leads_insert c p s (λ q h. apply-compose p q s base h) q h
apply-compose (Keep ∷ p) q (c ∷ s) base h = leads_keep p c s (λ q h. apply-compose p q s (omega arith) h) q h
apply-compose (Remove ∷ p) q (c ∷ s) base h = leads_remove p c s (λ q h. apply-compose p q s (omega arith) h) q h
apply-compose p q s base h = absurd (omega arith)
