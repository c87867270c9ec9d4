-- The lines of a script, and what they stand for.
use Rattle.std.specs.Prelude.{◌≡◌, ℕ, ◌+◌, ◌⊎◌, ◌==◌, if◌then◌else◌, List, [], ◌∷◌, ◌++◌}
use Rattle.std.specs.Str.{IsUtf8}

-- a byte before a list of lines belongs to the first of them
abbrev pub with_byte : ℕ → List (List ℕ) → List (List ℕ)
with_byte b [] = (b ∷ []) ∷ []
with_byte b (l ∷ ls) = (b ∷ l) ∷ ls

-- the lines, each ended by a line feed, which the last may lack
abbrev pub lines_of : List ℕ → List (List ℕ)
lines_of [] = []
lines_of (b ∷ bs) = if b == 10 then [] ∷ lines_of bs else with_byte b (lines_of bs)

-- an empty line, or one that begins with '#'
abbrev pub IsSkipped : List ℕ → Type 0
IsSkipped [] = Unit {0}
IsSkipped (b ∷ bs) = (b ≡ 35) × IsUtf8 (b ∷ bs)

-- the lines, the first of which has number n and stands after those before, read as this script: a
-- line is skipped, or is the next for a value that is numbered
abbrev pub ReadsAs : {A L : Type 0} → (ℕ → A → L) → (List L → List ℕ → A → Type 0) → List L → ℕ
    → List (List ℕ) → List L → Type 0
ReadsAs numbered IsNext before n [] script = script ≡ []
ReadsAs {A = A} {L = L} numbered IsNext before n (l ∷ ls) script =
    (IsSkipped l × ReadsAs numbered IsNext before (n + 1) ls script)
    ⊎ ((a : A) × (rest : List L) × IsNext before l a × (script ≡ numbered n a ∷ rest)
    × ReadsAs numbered IsNext (before ++ numbered n a ∷ []) (n + 1) ls rest)

-- line k is the first of these that is neither
abbrev pub IsFirstBad : {A L : Type 0} → (ℕ → A → L) → (List L → List ℕ → A → Type 0) → List L → ℕ
    → List (List ℕ) → ℕ → Type 0
IsFirstBad numbered IsNext before n [] k = ⊥
IsFirstBad {A = A} numbered IsNext before n (l ∷ ls) k =
    ((k ≡ n) × ¬ (IsSkipped l) × ((a : A) → ¬ (IsNext before l a)))
    ⊎ (IsSkipped l × IsFirstBad numbered IsNext before (n + 1) ls k) ⊎ ((a : A) × IsNext before l a
    × IsFirstBad numbered IsNext (before ++ numbered n a ∷ []) (n + 1) ls k)
