-- Lines that were written: deltas that follow each other, each over the text after the one before.
use Rattle.std.specs.Prelude.{◌≡◌, ℕ, ◌+◌, ◌-◌, ◌==◌, ◌&&◌, ◌||◌, Bool, List, [], ◌∷◌, ◌++◌, length}
use Rattle.std.specs.Prelude.{fold, nat_le, nat_lt}
use Rattle.std.specs.Prelude.{if◌then◌else◌, ⊤}
use Rattle.sporc_delta.specs.Marks.{Mark, base_len, out_len, keep_marks}
use Rattle.sporc_delta.specs.Transforms.{compose}
use Rattle.sporc_screen.specs.declared.limits.TheConstants.{MAX_NAMED}

-- the length of the text before these lines, of which the last one leads to a text of len
-- characters
abbrev pub len_before : List (List Mark) → ℕ → ℕ
len_before [] len = len
len_before (x ∷ xs) len = base_len x

-- each line is stated on the text after the one before it, and the last one leads to a text of len
-- characters
abbrev pub LeadTo : List (List Mark) → ℕ → Type 0
LeadTo [] len = ⊤
LeadTo (x ∷ xs) len = (out_len x ≡ len_before xs len) × LeadTo xs len

-- they in one delta, over a text of len characters
abbrev pub composed : ℕ → List (List Mark) → List Mark
composed len xs = fold compose (keep_marks len) xs

-- whether a line of this number is the base or one of so many lines since, up to the last
abbrev pub knows_line : ℕ → ℕ → ℕ → ℕ → Bool
knows_line base last count seen = seen == base || (nat_le seen last && nat_lt last (seen + count))

-- how many of them stand before those behind it
abbrev pub place_of : ℕ → ℕ → ℕ → ℕ → ℕ
place_of base last count seen = if seen == base then 0 else count - (last - seen)

-- the first two in one
abbrev pub first_joined : List (List Mark) → List (List Mark)
first_joined (x ∷ y ∷ xs) = compose x y ∷ xs
first_joined xs = xs

-- one line more; if there are as many as may be named, the first two become one
abbrev pub with_line : List (List Mark) → List Mark → List (List Mark)
with_line xs x =
    if nat_lt (length xs) MAX_NAMED then xs ++ x ∷ [] else first_joined xs ++ x ∷ []

-- the last line
abbrev pub last_of : List (List Mark) → List Mark
last_of [] = []
last_of (x ∷ []) = x
last_of (x ∷ y ∷ xs) = last_of (y ∷ xs)
