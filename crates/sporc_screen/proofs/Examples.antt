-- Worked examples: an editor and a client that begin with the text "ab".
use Rattle.std.proofs.Common.{◌≡◌, List, [], ◌∷◌, refl, true, false}
use Rattle.sporc_screen.proofs.Common.{Mark, Keep, Insert, ScreenModel, came, edited, knows, last_line, opened, refused}
use Rattle.sporc_screen.specs.declared.edit.Edit.TheVariants.{Insert as InsertText}
use Rattle.sporc_screen.specs.Machine.{Change, Come, DoNext, ReadNext, Sides, after, begun, shown}

-- another's "A" comes to the front
abbrev come_a : List Mark
come_a = Insert 65 ∷ Keep ∷ Keep ∷ []

abbrev with_a : ScreenModel
with_a = came (opened 2) come_a

it_is_written : last_line with_a ≡ record { numbers = record { line = 1; own = 0 }; delta = come_a }
it_is_written = refl

-- the editor has not read that, and types "x" there
abbrev with_x : ScreenModel
with_x = edited with_a 0 (InsertText 0 (120 ∷ []))

-- in the text shown it stands behind the "A", which is ordered earlier
the_draft_has_it : with_x.draft ≡ Keep ∷ Insert 120 ∷ Keep ∷ Keep ∷ []
the_draft_has_it = refl

-- the editor, which has "xab", is led to "Axab"
a_line_leads_on : last_line with_x ≡ record { numbers = record { line = 2; own = 1 }; delta = Insert 65 ∷ Keep ∷ Keep ∷ Keep ∷ [] }
a_line_leads_on = refl

-- its next edit names line 0 still, or line 2; it has ignored line 1
the_base_is_known : knows with_x 0 ≡ true
the_base_is_known = refl

a_line_before_is_not : knows with_x 1 ≡ false
a_line_before_is_not = refl

the_last_is_known : knows with_x 2 ≡ true
the_last_is_known = refl

no_line_to_come_is : knows with_x 3 ≡ false
no_line_to_come_is = refl

-- a refusal is a new beginning
a_refusal_is_known : knows (refused with_x) 3 ≡ true
a_refusal_is_known = refl

nothing_before_it_is : knows (refused with_x) 2 ≡ false
nothing_before_it_is = refl

-- the same from both sides: the edit and line 1 cross each other
abbrev crossed : Sides
crossed = after (Change (InsertText 0 (120 ∷ [])) ∷ Come come_a ∷ ReadNext ∷ DoNext ∷ []) (begun (97 ∷ 98 ∷ []))

line_one_is_ignored : crossed.editor.text ≡ 120 ∷ 97 ∷ 98 ∷ []
line_one_is_ignored = refl

abbrev read_on : Sides
read_on = after (ReadNext ∷ []) crossed

line_two_is_applied : read_on.editor.text ≡ 65 ∷ 120 ∷ 97 ∷ 98 ∷ []
line_two_is_applied = refl

it_is_the_text_shown : read_on.editor.text ≡ shown read_on
it_is_the_text_shown = refl
