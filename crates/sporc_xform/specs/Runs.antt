-- Runs of equal steps of two deltas over one text.
use Rattle.std.specs.Prelude.{ℕ, Bool, true, false, List, [], map, replicate}
use Rattle.sporc_xform.specs.declared.side_by_side.Run.{Run}
use Rattle.sporc_xform.specs.declared.side_by_side.Run.TheVariants as runs
use Rattle.sporc_delta.specs.Marks.{Mark, Keep, Remove}
use Rattle.sporc_delta.specs.Transforms.{Step, Earlier, Later, Both}

-- the mark of a character that is removed or kept
abbrev pub base_mark : Bool → Mark
base_mark true = Remove
base_mark false = Keep

-- what is left of so many marks, where the other delta removes the characters or not
abbrev pub base_marks : Bool → Bool → ℕ → List Mark
base_marks true removes count = []
base_marks false removes count = replicate count (base_mark removes)

abbrev pub run_steps : Run → List Step
run_steps (runs.Earlier text) = map Earlier text
run_steps (runs.Later text) = map Later text
run_steps (runs.Both earlier later count) =
    replicate count (Both (base_mark earlier) (base_mark later))
