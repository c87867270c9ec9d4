-- A delta as a list of marks, one for each character that it keeps, removes or inserts.
use Rattle.std.specs.Prelude.{ℕ, suc, ◌+◌, ◌-◌, List, [], ◌∷◌, ◌++◌, map, replicate}

-- one step along a text: keep the next character, remove it, or insert a character before it
pub data Mark : Type 0 where
  Keep : Mark
  Remove : Mark
  Insert : ℕ → Mark

-- how many characters the text before a delta has
abbrev pub base_len : List Mark → ℕ
base_len [] = 0
base_len (Keep ∷ ms) = suc (base_len ms)
base_len (Remove ∷ ms) = suc (base_len ms)
base_len (Insert c ∷ ms) = base_len ms

-- how many characters the text after it has
abbrev pub out_len : List Mark → ℕ
out_len [] = 0
out_len (Keep ∷ ms) = suc (out_len ms)
out_len (Remove ∷ ms) = out_len ms
out_len (Insert c ∷ ms) = suc (out_len ms)

-- how many characters it inserts
abbrev pub inserted_len : List Mark → ℕ
inserted_len [] = 0
inserted_len (Keep ∷ ms) = inserted_len ms
inserted_len (Remove ∷ ms) = inserted_len ms
inserted_len (Insert c ∷ ms) = suc (inserted_len ms)

-- the text after a delta, of a text with as many characters as its base
abbrev pub apply : List Mark → List ℕ → List ℕ
apply [] s = []
apply (Insert c ∷ ms) s = c ∷ apply ms s
apply (Keep ∷ ms) [] = []
apply (Keep ∷ ms) (c ∷ s) = c ∷ apply ms s
apply (Remove ∷ ms) [] = []
apply (Remove ∷ ms) (c ∷ s) = apply ms s

-- n characters kept, n characters removed, and a text inserted
abbrev pub keep_marks : ℕ → List Mark
keep_marks n = replicate n Keep

abbrev pub remove_marks : ℕ → List Mark
remove_marks n = replicate n Remove

abbrev pub insert_marks : List ℕ → List Mark
insert_marks text = map Insert text

-- over a text of len characters, text inserted before the one at this place
abbrev pub insertion : ℕ → ℕ → List ℕ → List Mark
insertion len at text = keep_marks at ++ insert_marks text ++ keep_marks (len - at)

-- over a text of len characters, count of them removed from this place on
abbrev pub removal : ℕ → ℕ → ℕ → List Mark
removal len at count = keep_marks at ++ remove_marks count ++ keep_marks (len - (at + count))

-- over a text of len characters, text in place of all of it
abbrev pub replacement : ℕ → List ℕ → List Mark
replacement len text = remove_marks len ++ insert_marks text
