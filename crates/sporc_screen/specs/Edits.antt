-- Edits as an editor states them, over the text that it has.
use Rattle.std.specs.Prelude.{ℕ, ◌+◌, nat_le, Bool, List, [], ◌∷◌, length, Option}
use Rattle.sporc_base.specs.FirstFault.{unless}
use Rattle.sporc_delta.specs.declared.limits.TheConstants.{MAX_COUNT}
use Rattle.sporc_delta.specs.Marks.{Mark, base_len, insertion, out_len, removal}
use Rattle.sporc_delta.specs.Transforms.{compose, earlier, later}
use Rattle.sporc_screen.specs.declared.edit.Edit.{Edit}
use Rattle.sporc_screen.specs.declared.edit.Edit.TheVariants.{Insert, Remove}
use Rattle.sporc_screen.specs.declared.fault.ScreenFault.{ScreenFault}
use Rattle.sporc_screen.specs.declared.fault.ScreenFault.TheVariants.{Outside, TooLong}
use Rattle.sporc_screen.specs.Lines.{composed, len_before}

-- whether an edit is in bounds of a text of so many characters
abbrev pub is_in_bounds : ℕ → Edit → Bool
is_in_bounds len (Insert at text) = nat_le at len
is_in_bounds len (Remove at count) = nat_le (at + count) len

-- how many characters it inserts
abbrev pub typed_len : Edit → ℕ
typed_len (Insert at text) = length text
typed_len (Remove at count) = 0

-- it as a delta of a text of so many characters
abbrev pub edit_marks : ℕ → Edit → List Mark
edit_marks len (Insert at text) = insertion len at text
edit_marks len (Remove at count) = removal len at count

-- ---- an edit of a text that lines lead on from, to the text after a draft

-- the length of the text before these lines
abbrev pub seen_len : List Mark → List (List Mark) → ℕ
seen_len draft lines = len_before lines (out_len draft)

-- what leads from it to the text after the draft
abbrev pub leading : List Mark → List (List Mark) → List Mark
leading draft lines = composed (seen_len draft lines) lines

-- the draft with the edit, which is restated behind what leads to the text after the draft
abbrev pub draft_with : List Mark → List (List Mark) → Edit → List Mark
draft_with draft lines edit =
    compose draft (later (edit_marks (seen_len draft lines) edit) (leading draft lines))

-- what leads there from the text with the edit, where the edit is ordered later
abbrev pub line_with : List Mark → List (List Mark) → Edit → List Mark
line_with draft lines edit =
    earlier (leading draft lines) (edit_marks (seen_len draft lines) edit)

-- what keeps it from being done
abbrev pub bounds_checks : List Mark → List (List Mark) → Edit → List (Option ScreenFault)
bounds_checks draft lines edit =
    unless (is_in_bounds (seen_len draft lines) edit) Outside
    ∷ unless (nat_le (base_len draft + out_len draft + seen_len draft lines + typed_len edit)
    MAX_COUNT) TooLong ∷ []
