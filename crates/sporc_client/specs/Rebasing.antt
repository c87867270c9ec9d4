-- Another's form and the pending items pass each other: the other is ordered earlier.
use Rattle.std.specs.Prelude.{◌≡◌, ℕ, ◌+◌, List, [], ◌∷◌, length, ⊤}
use Rattle.sporc_delta.specs.Marks.{Mark, apply, base_len, inserted_len, out_len}
use Rattle.sporc_delta.specs.Transforms.{compose, earlier, later}
use Rattle.sporc_client.specs.declared.pending.Pending.{Pending}
use Rattle.sporc_client.specs.declared.pending.Pending.TheVariants.{Edit, Change}

-- pending items after another's form, each passed by the form as it stands there
abbrev pub rebased : List Mark → List Pending → List Pending
rebased form [] = []
rebased form (Edit marks ∷ items) = Edit (later marks form) ∷ rebased (earlier form marks) items
rebased form (Change change ∷ items) = Change change ∷ rebased form items

-- another's form after the pending items: what it does to the shown text
abbrev pub beyond : List Mark → List Pending → List Mark
beyond form [] = form
beyond form (Edit marks ∷ items) = beyond (earlier form marks) items
beyond form (Change change ∷ items) = beyond form items

-- each edit is stated on the text after those before it
abbrev pub AreStated : List ℕ → List Pending → Type 0
AreStated text [] = ⊤
AreStated text (Edit marks ∷ items) =
    (base_len marks ≡ length text) × AreStated (apply marks text) items
AreStated text (Change change ∷ items) = AreStated text items

-- each edit is stated on a text as long as the one after those before it, from a text of this
-- length on
abbrev pub AreOver : ℕ → List Pending → Type 0
AreOver len [] = ⊤
AreOver len (Edit marks ∷ items) = (base_len marks ≡ len) × AreOver (out_len marks) items
AreOver len (Change change ∷ items) = AreOver len items

-- how many characters pending items insert
abbrev pub inserted_by : List Pending → ℕ
inserted_by [] = 0
inserted_by (Edit marks ∷ items) = inserted_len marks + inserted_by items
inserted_by (Change change ∷ items) = inserted_by items

-- a delta and the pending edits behind it, in one
abbrev pub in_one : List Mark → List Pending → List Mark
in_one start [] = start
in_one start (Edit marks ∷ items) = in_one (compose start marks) items
in_one start (Change change ∷ items) = in_one start items
