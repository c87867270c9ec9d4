-- Lists of deltas, each over the text after those before it, and a delta restated behind them.
use Rattle.std.specs.Prelude.{◌≡◌, ℕ, ◌+◌, ◌*◌, ◌^◌, ◌<◌, ◌≤◌, List, [], ◌∷◌, ⊤}
use Rattle.sporc_delta.specs.declared.limits.TheConstants.{MAX_TEXT_LEN}
use Rattle.sporc_delta.specs.Marks.{Mark, base_len, out_len, inserted_len}
use Rattle.sporc_delta.specs.Transforms.{later}

-- forms over a text of so many characters, with room for so many more that takes no memory
pub record BlocksModel : Type 0 where
  pub base : ℕ
  pub forms : List (List Mark)
  pub spare : ℕ

-- the length of the text after all of these forms
abbrev pub reached : ℕ → List (List Mark) → ℕ
reached base [] = base
reached base (f ∷ fs) = reached (out_len f) fs

-- each form is stated on the text after those before it
abbrev pub Follow : ℕ → List (List Mark) → Type 0
Follow base [] = ⊤
Follow base (f ∷ fs) = (base_len f ≡ base) × Follow (out_len f) fs

-- how many characters forms insert
abbrev pub all_inserted : List (List Mark) → ℕ
all_inserted [] = 0
all_inserted (f ∷ fs) = inserted_len f + all_inserted fs

-- q restated behind each of the forms in turn, which are ordered earlier
abbrev pub later_over : List Mark → List (List Mark) → List Mark
later_over q [] = q
later_over q (f ∷ fs) = later_over (later q f) fs

-- q, stated on the text before these forms, can pass them
pub record Fits (q : List Mark) (forms : List (List Mark)) : Type 0 where
  pub follow : Follow (base_len q) forms
  pub limit : base_len q + inserted_len q + all_inserted forms ≤ MAX_TEXT_LEN

-- from so many steps to so many, at most two are taken for each of b binary digits, if n has no
-- more
abbrev pub TwoADigit : ℕ → ℕ → ℕ → Type 0
TwoADigit before after n = (b : ℕ) → n < 2 ^ b → after ≤ before + 2 * b
