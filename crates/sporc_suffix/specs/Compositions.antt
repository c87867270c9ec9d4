-- Deltas that follow one another, in one.
use Rattle.std.specs.Prelude.{ℕ, List, fold}
use Rattle.sporc_delta.specs.Marks.{Mark, keep_marks}
use Rattle.sporc_delta.specs.Transforms.{compose}

-- the deltas in one, where the first is stated on a text of so many characters
abbrev pub composed : ℕ → List (List Mark) → List Mark
composed len deltas = fold compose (keep_marks len) deltas
