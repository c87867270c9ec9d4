-- What an entry that comes does to a client's own part.
use Rattle.std.specs.Prelude.{ℕ, Bool, List, drop, Option, None, if◌then◌else◌, ⊤}
use Rattle.sporc_delta.specs.Marks.{Mark, keep_marks}
use Rattle.sporc_client.specs.declared.coming.Coming.{Coming}
use Rattle.sporc_client.specs.declared.coming.Coming.TheVariants as comings
use Rattle.sporc_client.specs.declared.pending.Pending.{Pending}
use Rattle.sporc_client.specs.Passing.{CanAllBecome, all_became}
use Rattle.sporc_client.specs.Rebasing.{beyond, rebased}

-- it is the entry on its way, or another change, or another edit, with the pending items behind it,
-- by the member or not
pub data Effect : Type 0 where
  Own : Effect
  Change : Effect
  Edit : List Pending → Bool → Effect

-- by whether it is the entry on its way, whether it is a change, whether it is one of the member's
-- own, and its form
abbrev pub coming_of : (on_its_way change own : Bool) → List Mark → List Pending → Effect
coming_of on_its_way change own form pending =
    if on_its_way then Own
    else if change then Change
    else Edit (rebased form pending) own

-- its shown delta, if the shown text has this length
abbrev pub shown_form : (on_its_way change : Bool) → ℕ → List Mark → List Pending → List Mark
shown_form on_its_way change len form pending =
    if on_its_way then keep_marks len
    else if change then keep_marks len
    else beyond form pending

-- the pending items afterwards
abbrev pub pending_after : Effect → List Pending → List Pending
pending_after Own pending = drop 1 pending
pending_after Change pending = pending
pending_after (Edit items own) pending = items

-- and the entry on its way
abbrev pub flight_after : Effect → Option (List ℕ) → Option (List ℕ)
flight_after Own flight = None
flight_after Change flight = None
flight_after (Edit items own) flight = if own then None else flight

-- what the code found that an entry does, to these pending items
abbrev pub effect : Coming → List Pending → Effect
effect comings.Own pending = Own
effect comings.Change pending = Change
effect (comings.Edit passed own) pending = Edit (all_became passed pending) own

-- and that it can do so
abbrev pub CanCome : Coming → List Pending → Type 0
CanCome comings.Own pending = ⊤
CanCome comings.Change pending = ⊤
CanCome (comings.Edit passed own) pending = CanAllBecome passed pending
