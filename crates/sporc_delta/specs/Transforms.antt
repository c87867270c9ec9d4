-- Two deltas, each restated behind the other, and two deltas in one.
use Rattle.std.specs.Prelude.{ℕ, List, [], ◌∷◌}
use Rattle.std.specs.List.{flat_map}
use Rattle.sporc_delta.specs.Marks.{Mark, Keep, Remove, Insert}

-- One step of two deltas over one text, taken side by side: an insertion of the one that is ordered
-- earlier, an insertion of the one that is ordered later, or their marks of one character of the
-- text
pub data Step : Type 0 where
  Earlier : ℕ → Step
  Later : ℕ → Step
  Both : Mark → Mark → Step

-- the insertions that the later delta ends with
abbrev pub last_steps : List Mark → List Step
last_steps [] = []
last_steps (Insert c ∷ q) = Later c ∷ last_steps q
last_steps (Keep ∷ q) = []
last_steps (Remove ∷ q) = []

-- the later delta's insertions up to its mark of the next character, that mark beside the earlier
-- one's m, and then the rest
abbrev pub steps_to : Mark → (List Mark → List Step) → List Mark → List Step
steps_to m rest [] = []
steps_to m rest (Insert c ∷ q) = Later c ∷ steps_to m rest q
steps_to m rest (Keep ∷ q) = Both m Keep ∷ rest q
steps_to m rest (Remove ∷ q) = Both m Remove ∷ rest q

-- The steps of p and q over one text, p ordered earlier: an insertion of p, else one of q, else
-- both marks of a character
abbrev pub steps : List Mark → List Mark → List Step
steps [] q = last_steps q
steps (Insert c ∷ p) q = Earlier c ∷ steps p q
steps (Keep ∷ p) q = steps_to Keep (steps p) q
steps (Remove ∷ p) q = steps_to Remove (steps p) q

-- what a step leaves of the later delta, behind the earlier one
abbrev pub later_step : Step → List Mark
later_step (Earlier c) = Keep ∷ []
later_step (Later c) = Insert c ∷ []
later_step (Both Remove n) = []
later_step (Both m n) = n ∷ []

-- what a step leaves of the earlier delta, behind the later one
abbrev pub earlier_step : Step → List Mark
earlier_step (Earlier c) = Insert c ∷ []
earlier_step (Later c) = Keep ∷ []
earlier_step (Both m Remove) = []
earlier_step (Both m n) = m ∷ []

-- q, ordered later, restated on the text after p
abbrev pub later : List Mark → List Mark → List Mark
later q p = flat_map later_step (steps p q)

-- p, ordered earlier, restated on the text after q
abbrev pub earlier : List Mark → List Mark → List Mark
earlier p q = flat_map earlier_step (steps p q)

-- the text after both deltas: the steps without the characters that either removes
abbrev pub merged_steps : List Step → List ℕ → List ℕ
merged_steps [] s = []
merged_steps (Earlier c ∷ u) s = c ∷ merged_steps u s
merged_steps (Later c ∷ u) s = c ∷ merged_steps u s
merged_steps (Both m n ∷ u) [] = []
merged_steps (Both Keep Keep ∷ u) (c ∷ s) = c ∷ merged_steps u s
merged_steps (Both m n ∷ u) (c ∷ s) = merged_steps u s

abbrev pub merge : List Mark → List Mark → List ℕ → List ℕ
merge p q s = merged_steps (steps p q) s

-- the second delta's insertions, and then the rest
abbrev pub after_insertions : (List Mark → List Mark) → List Mark → List Mark
after_insertions rest [] = rest []
after_insertions rest (Insert c ∷ q) = Insert c ∷ after_insertions rest q
after_insertions rest (Keep ∷ q) = rest (Keep ∷ q)
after_insertions rest (Remove ∷ q) = rest (Remove ∷ q)

-- the second delta's mark of a character that the first one leaves by its mark m, in one mark or
-- none, and then the rest
abbrev pub through : Mark → (List Mark → List Mark) → List Mark → List Mark
through m rest [] = []
through m rest (Insert c ∷ q) = []
through m rest (Keep ∷ q) = m ∷ rest q
through (Insert c) rest (Remove ∷ q) = rest q
through Keep rest (Remove ∷ q) = Remove ∷ rest q
through Remove rest (Remove ∷ q) = Remove ∷ rest q

-- p and then q in one delta, q stated on the text after p: an insertion of q, else a removal of p,
-- else both marks of a character of the text between them
abbrev pub compose : List Mark → List Mark → List Mark
compose [] q = after_insertions (λ _. []) q
compose (Remove ∷ p) q = after_insertions (λ r. Remove ∷ compose p r) q
compose (Keep ∷ p) q = after_insertions (through Keep (compose p)) q
compose (Insert c ∷ p) q = after_insertions (through (Insert c) (compose p)) q
