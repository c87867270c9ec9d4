-- Worked examples of the definitions.
use Rattle.std.proofs.Common.{◌≡◌, List, [], ◌∷◌, refl, None, Some}
use Rattle.sporc_line.proofs.Common.{Mark, Keep, Remove, Insert, Genesis, Kit, Operation, Edited, Changed, text_after, edit_checks, first_of, BadPayload, WrongLength}
use Rattle.sporc_member.specs.declared.role.Role.TheVariants.{Reader}
use Rattle.sporc_member.specs.declared.change.Change.TheVariants.{SetRole}
use Rattle.sporc_member.specs.Device.{first_device}
use Rattle.sporc_line.specs.Keys.{key_after, key_started}
use Rattle.sporc_line.specs.Document.{forms_from}

-- "abc", by member 1
abbrev abc : Operation
abc = record { author = first_device 1; number = 1; base = 0; what = Edited (Insert 97 ∷ Insert 98 ∷ Insert 99 ∷ []) }

-- the operations of "abc", then of these
abbrev after_abc : List Operation → List (List Mark)
after_abc os = forms_from [] (abc ∷ os)

-- both members insert at the end of "abc": the one whose entry stands first stands left, "abcde"
pub two_insertions_example :
    text_after (after_abc (
    record { author = first_device 1; number = 2; base = 1; what = Edited (Keep ∷ Keep ∷ Keep ∷ Insert 100 ∷ []) }
    ∷ record { author = first_device 2; number = 1; base = 1; what = Edited (Keep ∷ Keep ∷ Keep ∷ Insert 101 ∷ []) }
    ∷ []))
    ≡ 97 ∷ 98 ∷ 99 ∷ 100 ∷ 101 ∷ []
unfolding forms_from
two_insertions_example = refl

-- both members remove the "b" of "abc": the form of the second one's entry keeps all of "ac"
pub one_removal_example :
    after_abc (
    record { author = first_device 1; number = 2; base = 1; what = Edited (Keep ∷ Remove ∷ Keep ∷ []) }
    ∷ record { author = first_device 2; number = 1; base = 1; what = Edited (Keep ∷ Remove ∷ Keep ∷ []) }
    ∷ [])
    ≡ (Insert 97 ∷ Insert 98 ∷ Insert 99 ∷ []) ∷ (Keep ∷ Remove ∷ Keep ∷ []) ∷ (Keep ∷ Keep ∷ []) ∷ []
unfolding forms_from
one_removal_example = refl

-- a change keeps the text, and an edit that was made before it passes its form
pub change_example :
    after_abc (
    record { author = first_device 1; number = 2; base = 1; what = Changed (SetRole 2 Reader) }
    ∷ record { author = first_device 2; number = 1; base = 1; what = Edited (Remove ∷ Keep ∷ Keep ∷ []) }
    ∷ [])
    ≡ (Insert 97 ∷ Insert 98 ∷ Insert 99 ∷ []) ∷ (Keep ∷ Keep ∷ Keep ∷ []) ∷ (Remove ∷ Keep ∷ Keep ∷ []) ∷ []
unfolding forms_from
change_example = refl

-- an epoch that no change started has no key
pub no_epoch_example : (g : Genesis) (kit : Kit) → key_after g kit [] 1 ≡ None
unfolding key_after key_started
no_epoch_example g kit = refl

-- a body that is no delta, an edit of a text of another length, and one of a text of this length
pub edit_checks_example :
    (first_of (edit_checks 3 None) ≡ Some BadPayload)
    × (first_of (edit_checks 3 (Some (Keep ∷ Insert 97 ∷ []))) ≡ Some WrongLength)
    × (first_of (edit_checks 3 (Some (Keep ∷ Keep ∷ Remove ∷ []))) ≡ None)
edit_checks_example = (refl, refl, refl)
