-- The parts of a delta: its runs of equal marks.
use Rattle.std.specs.Prelude.{◌≡◌, ℕ, suc, ◌≤◌, ◌<◌, Bool, true, false, Option, Some, slice_get}
use Rattle.std.specs.Prelude.{◌-◌, List, [], ◌∷◌, ◌++◌, length, ⊤}
use Rattle.sporc_delta.specs.declared.limits.TheConstants.{MAX_TEXT_LEN}
use Rattle.sporc_delta.specs.declared.part.Kind.{Kind}
use Rattle.sporc_delta.specs.declared.part.Kind.TheVariants as kinds
use Rattle.sporc_delta.specs.declared.part.Part.{Part}
use Rattle.sporc_delta.specs.declared.part.Part.TheVariants.{Keep as KeepRun, Insert as InsertText}
use Rattle.sporc_delta.specs.declared.part.Part.TheVariants.{Remove as RemoveRun}
use Rattle.sporc_delta.specs.declared.part.Piece.{Piece}
use Rattle.sporc_delta.specs.declared.part.Piece.TheVariants as pieces
use Rattle.sporc_delta.specs.Marks.{Mark, Keep, Remove, Insert, base_len, out_len, keep_marks}
use Rattle.sporc_delta.specs.Marks.{remove_marks, insert_marks}

-- the marks of one part, and of all parts in order
abbrev pub part_marks : Part → List Mark
part_marks (KeepRun n) = keep_marks n
part_marks (InsertText text) = insert_marks text
part_marks (RemoveRun n) = remove_marks n

abbrev pub marks_of : List Part → List Mark
marks_of [] = []
marks_of (p ∷ ps) = part_marks p ++ marks_of ps

-- the parts with one more mark in front, which joins a first part of its kind
abbrev pub with_mark : Mark → List Part → List Part
with_mark Keep (KeepRun n ∷ ps) = KeepRun (suc n) ∷ ps
with_mark Keep ps = KeepRun 1 ∷ ps
with_mark Remove (RemoveRun n ∷ ps) = RemoveRun (suc n) ∷ ps
with_mark Remove ps = RemoveRun 1 ∷ ps
with_mark (Insert c) (InsertText text ∷ ps) = InsertText (c ∷ text) ∷ ps
with_mark (Insert c) ps = InsertText (c ∷ []) ∷ ps

-- the runs of equal marks: the one list of parts with these marks in which no part is empty and no
-- two neighbours are of one kind
abbrev pub runs : List Mark → List Part
runs [] = []
runs (m ∷ ms) = with_mark m (runs ms)

abbrev pub kind_of : Part → Kind
kind_of (KeepRun n) = kinds.Keep
kind_of (InsertText text) = kinds.Insert
kind_of (RemoveRun n) = kinds.Remove

-- two parts are of one kind
abbrev pub same_kind : Part → Part → Bool
same_kind (KeepRun m) (KeepRun n) = true
same_kind (InsertText s) (InsertText t) = true
same_kind (RemoveRun m) (RemoveRun n) = true
same_kind p q = false

-- a part whose text stands elsewhere, as one that owns it
abbrev pub owned : Piece → Part
owned (pieces.Keep n) = KeepRun n
owned (pieces.Insert text) = InsertText text
owned (pieces.Remove n) = RemoveRun n

-- how many marks a part has
abbrev pub part_len : Part → ℕ
part_len (KeepRun n) = n
part_len (InsertText text) = length text
part_len (RemoveRun n) = n

-- the parts don't begin with one of this part's kind
abbrev pub BeginsUnlike : Part → List Part → Type 0
BeginsUnlike p [] = ⊤
BeginsUnlike p (q ∷ qs) = same_kind p q ≡ false

-- no part is empty, and no two neighbours are of one kind
abbrev pub AreRuns : List Part → Type 0
AreRuns [] = ⊤
AreRuns (p ∷ ps) = (0 < part_len p) × BeginsUnlike p ps × AreRuns ps

-- what holds of a delta at every moment: its parts are runs, and their lengths are these, which are
-- small
pub record DeltaInvariant (parts : List Part) (base out : ℕ) : Type 0 where
  pub are_runs : AreRuns parts
  pub base_is : base ≡ base_len (marks_of parts)
  pub out_is : out ≡ out_len (marks_of parts)
  pub base_limit : base ≤ MAX_TEXT_LEN
  pub out_limit : out ≤ MAX_TEXT_LEN

-- how many characters a last part keeps, and removes, and whether one inserts
abbrev pub kept_by : Option Part → ℕ
kept_by (Some (KeepRun n)) = n
kept_by p = 0

abbrev pub removed_by : Option Part → ℕ
removed_by (Some (RemoveRun n)) = n
removed_by p = 0

abbrev pub inserted_by : Option Part → Bool
inserted_by (Some (InsertText text)) = true
inserted_by p = false

abbrev pub kept_at_end : List Part → ℕ
kept_at_end ps = kept_by (slice_get ps (length ps - 1))

abbrev pub removed_at_end : List Part → ℕ
removed_at_end ps = removed_by (slice_get ps (length ps - 1))

abbrev pub text_at_end : List Part → Bool
text_at_end ps = inserted_by (slice_get ps (length ps - 1))

-- the new parts have these marks behind those of the old ones, and stay runs
pub record Appends (old new : List Part) (ms : List Mark) : Type 0 where
  pub marks : marks_of new ≡ marks_of old ++ ms
  pub are_runs : AreRuns old → AreRuns new
