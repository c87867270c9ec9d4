-- What is left of the parts of a delta, from a place on.
use Rattle.std.specs.Prelude.{◌≡◌, ℕ, ◌-◌, ◌<◌, Bool, true, false, List, [], ◌∷◌, drop, ◌==◌}
use Rattle.std.specs.Prelude.{if◌then◌else◌, ⊤}
use Rattle.sporc_delta.specs.declared.part.Part.{Part}
use Rattle.sporc_delta.specs.declared.part.Part.TheVariants.{Keep, Insert as InsertText, Remove}
use Rattle.sporc_delta.specs.Marks.{Mark, base_len, out_len}
use Rattle.sporc_delta.specs.Parts.{part_len, marks_of}

-- the parts without the first n marks, of which the first part has more
abbrev pub cut : ℕ → List Part → List Part
cut n [] = []
cut n (Keep m ∷ ps) = Keep (m - n) ∷ ps
cut n (InsertText text ∷ ps) = InsertText (drop n text) ∷ ps
cut n (Remove m ∷ ps) = Remove (m - n) ∷ ps

-- the parts without the first n marks, of which the first part has at least as many
abbrev pub without : ℕ → List Part → List Part
without n [] = []
without n (p ∷ ps) = if part_len p == n then ps else cut n (p ∷ ps)

-- the length of the first part, the text that it inserts, and whether it inserts and whether it
-- removes
abbrev pub first_len : List Part → ℕ
first_len [] = 0
first_len (p ∷ ps) = part_len p

abbrev pub first_text : List Part → List ℕ
first_text (InsertText text ∷ ps) = text
first_text ps = []

abbrev pub first_inserts : List Part → Bool
first_inserts (InsertText text ∷ ps) = true
first_inserts ps = false

abbrev pub first_removes : List Part → Bool
first_removes (Remove n ∷ ps) = true
first_removes ps = false

-- no part is empty
abbrev pub NoneEmpty : List Part → Type 0
NoneEmpty [] = ⊤
NoneEmpty (p ∷ ps) = (0 < part_len p) × NoneEmpty ps

-- the parts, where so many marks and this text are left of the first one
abbrev pub left_of : List Part → ℕ → List ℕ → List Part
left_of [] left text = []
left_of (Keep n ∷ ps) left text = Keep left ∷ ps
left_of (InsertText t ∷ ps) left text = InsertText text ∷ ps
left_of (Remove n ∷ ps) left text = Remove left ∷ ps

-- what a cursor keeps of its place
pub record CursorInvariant (parts : List Part) (left : ℕ) (text : List ℕ) : Type 0 where
  pub none_empty : NoneEmpty parts
  pub left_is : left ≡ first_len (left_of parts left text)
  pub text_is : text ≡ first_text (left_of parts left text)

-- what is left of two deltas over one text
pub record SideBySideInvariant (ps qs : List Part) : Type 0 where
  pub base : base_len (marks_of ps) ≡ base_len (marks_of qs)
  pub first_none_empty : NoneEmpty ps
  pub second_none_empty : NoneEmpty qs

-- what is left of two deltas, the second over the text after the first
pub record InARowInvariant (ps qs : List Part) : Type 0 where
  pub between : out_len (marks_of ps) ≡ base_len (marks_of qs)
  pub first_none_empty : NoneEmpty ps
  pub second_none_empty : NoneEmpty qs

-- what is left of two such deltas
pub record InARowModel : Type 0 where
  pub first : List Mark
  pub second : List Mark
