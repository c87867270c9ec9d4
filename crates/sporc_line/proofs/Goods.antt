-- Good histories, their beginnings, and one entry more.
use Rattle.std.proofs.Common.{◌≡◌, ℕ, ◌+◌, ◌<◌, ◌≤◌, List, [], ◌∷◌, ◌++◌, length, take, refl, sym, subst, arith, None, Some, Ok, ◌⊎◌, inl, inr}
use Rattle.sporc_line.proofs.Common.{slice_get, take-take, take-append-le, Entry, Genesis, entry_of, Kit, epoch_key, first_fault, Good, Meets}
use Rattle.sporc_line.specs.Keys.{key_after}
use Rattle.sporc_line.proofs.Lists.{slice_get_push, slice_get_last, slice_get-take, take_front}
use Rattle.sporc_line.proofs.Passes.{Passes, passed}

-- the key of epoch 0 is that of the ring, whatever the history
pub first_key : (g : Genesis) (kit : Kit) (A B : List (List ℕ)) → epoch_key g kit A 0 ≡ epoch_key g kit B 0
unfolding key_after
first_key g kit A B = refl

opens_at : (g : Genesis) (kit : Kit) (A B : List (List ℕ)) → Good g kit A → Meets g 0 (epoch_key g kit B 0) g.commitment
opens_at g kit A B good = subst (λ k. Meets g 0 k g.commitment) (first_key g kit A B) good.opens

-- the empty history of a member whose key of epoch 0 meets the commitment
pub good_none : (g : Genesis) (kit : Kit) → Meets g 0 (epoch_key g kit [] 0) g.commitment → Good g kit []
good_none g kit opens = record { opens = opens; each = λ i b at. absurd cc }

-- the entry at a place of a good history
pub good_entry : (g : Genesis) (kit : Kit) (A : List (List ℕ)) (i : ℕ) (b : List ℕ) → Good g kit A → slice_get A i ≡ Some b
    → (e : Entry) × (entry_of b ≡ Ok e) × Passes g kit (take i A) (i + 1) e
good_entry g kit A i b good at = passed g kit (take i A) (i + 1) b (good.each i b at)

pub good_take : (g : Genesis) (kit : Kit) (A : List (List ℕ)) (n : ℕ) → Good g kit A → Good g kit (take n A)
good_take g kit A n good = record {
  opens = opens_at g kit A (take n A) good;
  each = λ i b at.
      let p = slice_get-take A n i b at in
      let l : i ≤ n = omega (arith, p.0) in
      rw (take-take i n A l) (good.each i b p.1);
}

pub good_push : (g : Genesis) (kit : Kit) (A : List (List ℕ)) (b : List ℕ) → Good g kit A → first_fault g kit A (length A + 1) b ≡ None → Good g kit (A ++ b ∷ [])
good_push g kit A b good h = record {
  opens = opens_at g kit A (A ++ b ∷ []) good;
  each = λ i c at. at_cases i c (slice_get_push A b c i at);
}
  where
    at_cases : (i : ℕ) (c : List ℕ) → ((i < length A) × (slice_get A i ≡ Some c)) ⊎ ((i ≡ length A) × (b ≡ c)) → first_fault g kit (take i (A ++ b ∷ [])) (i + 1) c ≡ None
    at_cases i c (inl p) = let l : i ≤ length A = omega (arith, p.0) in rw (take-append-le i A (b ∷ []) l) (good.each i c p.1)
    at_cases i c (inr p) =
        subst (λ j. first_fault g kit (take j (A ++ b ∷ [])) (j + 1) c ≡ None) (sym p.0)
        (rw (take_front A b) (subst (λ c. first_fault g kit A (length A + 1) c ≡ None) p.1 h))

pub good_front : (g : Genesis) (kit : Kit) (A : List (List ℕ)) (b : List ℕ) → Good g kit (A ++ b ∷ []) → Good g kit A
good_front g kit A b good = subst (Good g kit) (take_front A b) (good_take g kit (A ++ b ∷ []) (length A) good)

-- the last entry of a good history
pub last_passes : (g : Genesis) (kit : Kit) (A : List (List ℕ)) (b : List ℕ) → Good g kit (A ++ b ∷ [])
    → (e : Entry) × (entry_of b ≡ Ok e) × Passes g kit A (length A + 1) e
last_passes g kit A b good =
    let p = good_entry g kit (A ++ b ∷ []) (length A) b good (slice_get_last A b) in
    (p.0, p.1, subst (λ B. Passes g kit B (length A + 1) p.0) (take_front A b) p.2)
