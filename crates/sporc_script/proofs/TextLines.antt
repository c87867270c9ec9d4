-- The lines of a text.
use Rattle.std.proofs.Common.{◌≡◌, ℕ, ◌<◌, List, [], ◌∷◌, ◌++◌, length, refl, inl, inr, arith}
use Rattle.sporc_script.proofs.Common.{eqb_tells, Lacks, lines_of}

lines_of-more : (b : ℕ) (bs line : List ℕ) (rest : List (List ℕ)) → ¬ (b ≡ 10) → lines_of bs ≡ line ∷ rest → lines_of (b ∷ bs) ≡ (b ∷ line) ∷ rest
lines_of-more b bs line rest other e =
    elim (eqb_tells b 10) [
      | inl h ↦ absurd (other h.1)
      | inr h ↦ rw (h.0, e) refl
    ]

pub lines_of-split : (line rest : List ℕ) → Lacks 10 line → lines_of (line ++ 10 ∷ rest) ≡ line ∷ lines_of rest
lines_of-split [] rest lacks = refl
lines_of-split (b ∷ bs) rest lacks = lines_of-more b (bs ++ 10 ∷ rest) bs (lines_of rest) lacks.0 (lines_of-split bs rest lacks.1)

pub lines_of-last : (line : List ℕ) → 0 < length line → Lacks 10 line → lines_of line ≡ line ∷ []
lines_of-last [] some lacks = absurd (omega arith)
lines_of-last (b ∷ []) some lacks =
    elim (eqb_tells b 10) [ inl h ↦ absurd (lacks.0 h.1) | inr h ↦ rw h.0 refl ]
lines_of-last (b ∷ c ∷ bs) some lacks = lines_of-more b (c ∷ bs) (c ∷ bs) [] lacks.0 (lines_of-last (c ∷ bs) (omega arith) lacks.1)
