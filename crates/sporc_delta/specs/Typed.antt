-- Deltas whose counts and characters are such as the code's types have.
use Rattle.std.specs.Prelude.{◌≡◌, ◌^◌, ◌<◌, List, length, true}
use Rattle.std.specs.List.{AllByRecursion}
use Rattle.std.specs.Str.{all_scalars, encode_utf8_all}
use Rattle.sporc_delta.specs.declared.part.Part.{Part}
use Rattle.sporc_delta.specs.declared.part.Part.TheVariants.{Keep, Insert, Remove}
use Rattle.sporc_delta.specs.Marks.{Mark}
use Rattle.sporc_delta.specs.Parts.{runs}

-- the count of a part fits eight bytes, and its characters are Unicode scalar values
abbrev pub IsTypedPart : Part → Type 0
IsTypedPart (Keep n) = n < 2 ^ 64
IsTypedPart (Insert text) = (length (encode_utf8_all text) < 2 ^ 64) × (all_scalars text ≡ true)
IsTypedPart (Remove n) = n < 2 ^ 64

abbrev pub IsTypedDelta : List Mark → Type 0
IsTypedDelta ms = AllByRecursion IsTypedPart (runs ms)
