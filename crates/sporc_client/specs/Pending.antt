-- Pending items by their places.
use Rattle.std.specs.Prelude.{ℕ, List, Option, None, Some, option_and_then, slice_get}
use Rattle.sporc_delta.specs.Marks.{Mark}
use Rattle.sporc_client.specs.declared.pending.Pending.{Pending}
use Rattle.sporc_client.specs.declared.pending.Pending.TheVariants.{Edit, Change}

-- the marks of an edit
abbrev pub marks_of : Pending → Option (List Mark)
marks_of (Edit marks) = Some marks
marks_of (Change change) = None

-- the marks of the pending item at a place, if there is one and it is an edit
abbrev pub pending_marks : List Pending → ℕ → Option (List Mark)
pending_marks items place = option_and_then marks_of (slice_get items place)
