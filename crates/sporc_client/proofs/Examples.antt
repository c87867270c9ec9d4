-- Worked examples: logs, pending edits that another's edit passes, what events do to a client, what a run keeps, and the
-- leaves that calls spend.
use Rattle.std.proofs.Common.{◌≡◌, List, [], ◌∷◌, ◌++◌, None, Some, refl}
use Rattle.sporc_client.proofs.Common.{Keep, Insert, Device, first_device, Keys, LeafUse, leaves_used, journal_of, Opening, PlainClient, opened, beyond, rebased, Setup, Move, Open, Happen, Give, Restart, after_all}
use Rattle.sporc_client.proofs.Common.{opening_of, start, replay_from}
use Rattle.sporc_delta.specs.Marks.{Remove}
use Rattle.sporc_client.specs.declared.event.Event.TheVariants as stored
use Rattle.sporc_client.specs.declared.pending.Pending.TheVariants as items
use Rattle.sporc_client.specs.Log as events

-- a journal names accepted entries by their places
places_count_on :
    journal_of (events.Accept 0 (7 ∷ []) ∷ events.Discard 1 ∷ events.Accept 2 (8 ∷ []) ∷ [])
    ≡ stored.Accept 0 1 ∷ stored.Discard 1 ∷ stored.Accept 2 2 ∷ []
places_count_on = refl

-- ---- another's edit

-- at one place the other's text comes first: over "x", another's "a" before it, and two of its own, "b" before it and "c"
-- between
ties_go_to_the_earlier :
    rebased (Insert 97 ∷ Keep ∷ []) (items.Edit (Insert 98 ∷ Keep ∷ []) ∷ items.Edit (Keep ∷ Insert 99 ∷ Keep ∷ []) ∷ [])
    ≡ items.Edit (Keep ∷ Insert 98 ∷ Keep ∷ []) ∷ items.Edit (Keep ∷ Keep ∷ Insert 99 ∷ Keep ∷ []) ∷ []
ties_go_to_the_earlier = refl

-- and to the shown text the other adds its "a" in front
ties_beyond :
    beyond (Insert 97 ∷ Keep ∷ []) (items.Edit (Insert 98 ∷ Keep ∷ []) ∷ items.Edit (Keep ∷ Insert 99 ∷ Keep ∷ []) ∷ [])
    ≡ Insert 97 ∷ Keep ∷ Keep ∷ Keep ∷ []
ties_beyond = refl

-- an insertion inside what the other removes stays, and stands alone
insertions_survive_removals :
    rebased (Remove ∷ Remove ∷ []) (items.Edit (Keep ∷ Insert 98 ∷ Keep ∷ []) ∷ []) ≡ items.Edit (Insert 98 ∷ []) ∷ []
insertions_survive_removals = refl

-- ---- events: "a" is written on the empty text, and then "b" by one who had not seen it

abbrev two_edits : Opening → PlainClient
two_edits o = replay_from (opened o) (events.Edit 0 0 (Insert 97 ∷ []) ∷ events.Edit 1 0 (Insert 98 ∷ []) ∷ [])

-- the second is restated behind the first
second_is_restated : (o : Opening) → (two_edits o).pending ≡ items.Edit (Insert 97 ∷ []) ∷ items.Edit (Keep ∷ Insert 98 ∷ []) ∷ []
second_is_restated o = refl

-- the entry of the first comes back: the second stays as it was, stated on the text that is committed now
own_entry_comes : (o : Opening)
    → (replay_from (two_edits o) (events.Submit 0 (7 ∷ []) ∷ events.Accept 0 (7 ∷ []) ∷ [])).pending ≡ items.Edit (Keep ∷ Insert 98 ∷ []) ∷ []
own_entry_comes o = refl

-- what is given up takes the entry on its way with it
nothing_is_left : (o : Opening) → (replay_from (two_edits o) (events.Submit 0 (7 ∷ []) ∷ events.Discard 0 ∷ [])).flight ≡ None
nothing_is_left o = refl

-- ---- runs: the first device of member 1 opens a client and signs the entry 7

abbrev one : Device
one = first_device 1

-- a further device of it
abbrev further : Device
further = record { member = 1; number = 1 }

abbrev signs : Keys → List Move
signs ring = Open one ring ∷ Happen one (events.Submit 0 (7 ∷ [])) ∷ []

-- what the client was is kept with what it signed, also if it goes back
its_client_is_kept : (s : Setup) (ring : Keys)
    → (after_all s start (signs ring)).signed ≡ record { who = one; entry = 7 ∷ []; client = opened (opening_of s one ring) } ∷ []
its_client_is_kept s ring = refl

signed_for_good : (s : Setup) (ring : Keys)
    → (after_all s start (signs ring ++ Restart one 0 ∷ [])).signed ≡ (after_all s start (signs ring)).signed
signed_for_good s ring = refl

-- no other device has a client then, and what is handed to one that has none changes nothing
no_one_else : (s : Setup) (ring : Keys) → (after_all s start (signs ring ++ Give further 1 (7 ∷ []) ∷ [])).clients further ≡ None
no_one_else s ring = refl

-- ---- leaves: a submission runs out of memory behind its draw, the next spends the ticket, the one after it draws

abbrev three_calls : List LeafUse
three_calls =
    record { leaf = None; after = record { next = 8; ticket = Some 7 } }
    ∷ record { leaf = Some 7; after = record { next = 8; ticket = None } }
    ∷ record { leaf = Some 8; after = record { next = 9; ticket = None } }
    ∷ []

its_leaves : leaves_used three_calls ≡ 7 ∷ 8 ∷ []
its_leaves = refl
