-- Whether two deltas are the same.
use Rattle.std.specs.Prelude.{◌==◌, Bool, false, List}
use Rattle.std.specs.Str.{bytes_eq}
use Rattle.std.specs.Cmp.Lexicographic.{pointwise}
use Rattle.sporc_delta.specs.declared.part.Part.{Part}
use Rattle.sporc_delta.specs.declared.part.Part.TheVariants.{Keep, Insert, Remove}
use Rattle.sporc_delta.specs.Marks.{Mark}
use Rattle.sporc_delta.specs.Parts.{runs}

-- whether two parts are the same
abbrev pub same_part : Part → Part → Bool
same_part (Keep m) (Keep n) = m == n
same_part (Insert s) (Insert t) = bytes_eq s t
same_part (Remove m) (Remove n) = m == n
same_part p q = false

abbrev pub same_parts : List Part → List Part → Bool
same_parts ps qs = pointwise same_part ps qs

-- whether two deltas are the same: a delta is the list of its runs
abbrev pub same_delta : List Mark → List Mark → Bool
same_delta ms ns = same_parts (runs ms) (runs ns)
