-- What a delta and one part of it do to the characters that they stand at.
use Rattle.std.specs.Prelude.{◌≡◌, ℕ, ◌+◌, List, [], ◌++◌, take}
use Rattle.sporc_delta.specs.Marks.{Mark, base_len, out_len, keep_marks}
use Rattle.sporc_delta.specs.declared.part.Part.{Part}
use Rattle.sporc_delta.specs.declared.part.Part.TheVariants.{Keep, Insert, Remove}

-- how many characters it passes
abbrev pub characters_read : Part → ℕ
characters_read (Keep n) = n
characters_read (Insert text) = 0
characters_read (Remove n) = n

-- the characters that it leaves in their place
abbrev pub characters_written : Part → List ℕ → List ℕ
characters_written (Keep n) rest = take n rest
characters_written (Insert text) rest = text
characters_written (Remove n) rest = []

-- of a delta these marks alone, between two ends that are kept, change anything
pub record IsBetween (delta middle : List Mark) (kept left : ℕ) : Type 0 where
  pub reads : base_len delta ≡ kept + base_len middle + left
  pub writes : out_len delta ≡ kept + out_len middle + left
  pub marks_are : delta ≡ keep_marks kept ++ (middle ++ keep_marks left)
