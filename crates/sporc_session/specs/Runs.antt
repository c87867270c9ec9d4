-- Journals as parts of a run.
use Rattle.std.specs.Prelude.{◌≡◌, List, ◌∷◌, Contains}
use Rattle.std.specs.FinMap.{get}
use Rattle.std.specs.List.{filter}
use Rattle.sporc_member.specs.declared.device.Device.{Device}
use Rattle.sporc_member.specs.Device.{same_device}
use Rattle.sporc_line.specs.Good.{Meets}
use Rattle.sporc_client.specs.Calls.{LeadTo, events_of, mover_of}
use Rattle.sporc_client.specs.Log.{Logged}
use Rattle.sporc_client.specs.Run.{Setup, World, Move, Open, opening_of}
use Rattle.sporc_shared.specs.Items.{Item, Past, IsAllowed, client_of, items_of, with_events}

-- the moves of one device's client, in order
abbrev pub moves_of : Device → List Move → List Move
moves_of who moves = filter (λ move. same_device (mover_of move) who) moves

-- the moves are that a device of the setup opens a client, and then its events, each of which its
-- calls make there
pub record IsJournal (s : Setup) (who : Device) (moves : List Move) : Type 0 where
  pub past : Past
  pub is_device : Contains s.devices who
  pub opening : past.opening ≡ opening_of s who past.opening.kit.ring
  pub meets : Meets s.genesis 0 (get past.opening.kit.ring 0) s.genesis.commitment
  pub allowed : IsAllowed past
  pub are : moves ≡ Open who past.opening.kit.ring ∷ events_of who past.log

-- The log is that of a client that goes on from this past, and the events that were added are moves
-- of a run in which a device has that client
pub record AreMoves (s : Setup) (w : World) (who : Device) (past : Past)
    (log : List Item) : Type 0 where
  pub events : List Logged
  pub log_is : log ≡ items_of (with_events past events)
  pub lead : LeadTo s w (events_of who events) who (client_of (with_events past events))
