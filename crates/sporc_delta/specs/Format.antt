-- The bytes of a delta: of each part a byte for its kind, eight bytes for its count, the high ones
-- first, and for an insertion so many bytes of UTF-8.
use Rattle.std.specs.Prelude.{◌≡◌, ℕ, ◌≤◌, true, List, [], ◌∷◌, ◌++◌, length, ⊤}
use Rattle.std.specs.Int.{w64, to_be_bytes}
use Rattle.std.specs.Str.{all_scalars, encode_utf8_all}
use Rattle.sporc_delta.specs.declared.encode.TheConstants.{INSERT, KEEP, REMOVE}
use Rattle.sporc_delta.specs.declared.limits.TheConstants.{MAX_COUNT}
use Rattle.sporc_delta.specs.declared.part.Kind.{Kind}
use Rattle.sporc_delta.specs.declared.part.Kind.TheVariants as kinds
use Rattle.sporc_delta.specs.declared.part.Part.{Part}
use Rattle.sporc_delta.specs.declared.part.Part.TheVariants.{Keep, Insert as InsertText, Remove}
use Rattle.sporc_delta.specs.Marks.{Mark}
use Rattle.sporc_delta.specs.Parts.{runs}

-- the byte of each kind
abbrev pub kind_byte : Kind → ℕ
kind_byte kinds.Keep = KEEP
kind_byte kinds.Insert = INSERT
kind_byte kinds.Remove = REMOVE

-- the bytes of a part
abbrev pub part_bytes : Part → List ℕ
part_bytes (Keep n) = kind_byte kinds.Keep ∷ to_be_bytes w64 n
part_bytes (InsertText text) =
    kind_byte kinds.Insert ∷ to_be_bytes w64 (length (encode_utf8_all text)) ++ encode_utf8_all text
part_bytes (Remove n) = kind_byte kinds.Remove ∷ to_be_bytes w64 n

abbrev pub parts_bytes : List Part → List ℕ
parts_bytes [] = []
parts_bytes (p ∷ ps) = part_bytes p ++ parts_bytes ps

-- the one spelling of a delta
abbrev pub delta_bytes : List Mark → List ℕ
delta_bytes ms = parts_bytes (runs ms)

-- what has a spelling: a count that is not too great, of bytes where text is inserted, and a text
-- of Unicode scalar values
abbrev pub HasSpelling : Part → Type 0
HasSpelling (Keep n) = n ≤ MAX_COUNT
HasSpelling (InsertText text) =
    (all_scalars text ≡ true) × (length (encode_utf8_all text) ≤ MAX_COUNT)
HasSpelling (Remove n) = n ≤ MAX_COUNT

abbrev pub HaveSpellings : List Part → Type 0
HaveSpellings [] = ⊤
HaveSpellings (p ∷ ps) = HasSpelling p × HaveSpellings ps

-- these bytes spell this delta
pub record Spells (ms : List Mark) (bytes : List ℕ) : Type 0 where
  pub in_range : HaveSpellings (runs ms)
  pub bytes_are : bytes ≡ delta_bytes ms
