-- Pieces of two deltas that follow each other.
use Rattle.std.specs.Prelude.{ℕ, Bool, true, false, List, []}
use Rattle.sporc_delta.specs.Marks.{Mark, keep_marks, remove_marks, insert_marks}
use Rattle.sporc_delta.specs.Parts.{owned, part_marks}
use Rattle.sporc_xform.specs.declared.composition.Chunk.{Chunk}
use Rattle.sporc_xform.specs.declared.composition.Chunk.TheVariants as chunks

-- the marks that two deltas have in one
abbrev pub chunk_marks : Chunk → List Mark
chunk_marks (chunks.Left piece) = part_marks (owned piece)
chunk_marks chunks.Gone = []

-- what is left of characters between the deltas, which the first inserts or keeps and the second
-- removes or keeps
abbrev pub through_marks : Bool → Bool → List ℕ → ℕ → List Mark
through_marks true true text count = []
through_marks true false text count = insert_marks text
through_marks false true text count = remove_marks count
through_marks false false text count = keep_marks count
