-- What pending items become as another's form passes them, one after the other.
use Rattle.std.specs.Prelude.{List, [], ◌∷◌, Option, None, Some, ⊤}
use Rattle.sporc_xform.specs.declared.restating.Passed.{Passed}
use Rattle.sporc_xform.specs.Restating.{CanBecome, became}
use Rattle.sporc_client.specs.declared.pending.Pending.{Pending}
use Rattle.sporc_client.specs.declared.pending.Pending.TheVariants.{Edit, Change}

-- an edit becomes what is said of it, and a change stays
abbrev pub item_became : Option Passed → Pending → Pending
item_became (Some passed) (Edit marks) = Edit (became passed marks)
item_became (Some passed) (Change change) = Change change
item_became None item = item

abbrev pub ItemCanBecome : Option Passed → Pending → Type 0
ItemCanBecome (Some passed) (Edit marks) = CanBecome passed marks
ItemCanBecome (Some passed) (Change change) = ⊤
ItemCanBecome None item = ⊤

-- the first items become what is said of them, and the others stay
abbrev pub all_became : List (Option Passed) → List Pending → List Pending
all_became [] items = items
all_became (p ∷ ps) [] = []
all_became (p ∷ ps) (item ∷ items) = item_became p item ∷ all_became ps items

abbrev pub CanAllBecome : List (Option Passed) → List Pending → Type 0
CanAllBecome [] items = ⊤
CanAllBecome (p ∷ ps) [] = ⊥
CanAllBecome (p ∷ ps) (item ∷ items) = ItemCanBecome p item × CanAllBecome ps items
