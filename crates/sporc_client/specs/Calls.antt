-- Calls of clients as moves of a run. What a call did is what its contract says of the log: it
-- added events, or it began it anew.
use Rattle.std.specs.Prelude.{◌≡◌, ◌≢◌, List, map, Some}
use Rattle.sporc_member.specs.declared.device.Device.{Device}
use Rattle.sporc_client.specs.Log.{Logged}
use Rattle.sporc_client.specs.PlainClient.{PlainClient}
use Rattle.sporc_client.specs.Run.{Setup, World, Move, Open, Happen, Give, Restart}
use Rattle.sporc_client.specs.Run.{IsRun, after_all}

-- whose client a move is of
abbrev pub mover_of : Move → Device
mover_of (Open who ring) = who
mover_of (Happen who event) = who
mover_of (Give who position bytes) = who
mover_of (Restart who k) = who

-- a client's events as moves
abbrev pub events_of : Device → List Logged → List Move
events_of who log = map (Happen who) log

-- moves that may happen in a world, and lead to this client of a device, and leave all other
-- clients
pub record LeadTo (s : Setup) (w : World) (moves : List Move) (who : Device)
    (c : PlainClient) : Type 0 where
  pub run : IsRun s w moves
  pub client : (after_all s w moves).clients who ≡ Some c
  pub others : (other : Device) → other ≢ who
      → (after_all s w moves).clients other ≡ w.clients other
