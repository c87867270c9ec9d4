-- Clients of one document, under a server that hands any bytes to anyone.
use Rattle.std.specs.Prelude.{◌≡◌, ℕ, ◌≤◌, true, List, [], ◌∷◌, ◌++◌, length, take, Option, None}
use Rattle.std.specs.Prelude.{Some, if◌then◌else◌, IsSomeAnd, Contains, fold, ⊤}
use Rattle.std.specs.Option.{option_map_or}
use Rattle.std.specs.FinMap.{get}
use Rattle.lms_tree.specs.LmsPrivate.{LmsPrivate, lms_public_of}
use Rattle.lms_tree.specs.LmsPublic.{public_key_bytes}
use Rattle.sporc_member.specs.declared.device.Device.{Device}
use Rattle.sporc_member.specs.Device.{same_device}
use Rattle.sporc_entry.specs.declared.genesis.Genesis.{Genesis}
use Rattle.sporc_epoch.specs.Keys.{Keys}
use Rattle.sporc_head.specs.declared.refusal.Refusal.{Refusal}
use Rattle.sporc_line.specs.Good.{Meets}
use Rattle.sporc_line.specs.Kit.{Kit}
use Rattle.sporc_client.specs.Log.{Logged, Submit}
use Rattle.sporc_client.specs.PlainClient.{Opening, PlainClient, opened}
use Rattle.sporc_client.specs.Step.{accepted, log_of_first, replay, step}
use Rattle.sporc_client.specs.Answers.{journal_has_room, refusal_of}
use Rattle.sporc_client.specs.Allowed.{can_log}

-- a document, the devices of members that run this program, each's pairwise keys and private key
pub record Setup : Type 0 where
  pub genesis : Genesis
  pub devices : List Device
  pub pairs : Device → Keys
  pub private : Device → LmsPrivate

-- a device's kit and what its client is opened with, if it has this ring
abbrev pub kit_in : Setup → Device → Keys → Kit
kit_in s who ring = record { me = who; ring = ring; pairs = s.pairs who }

abbrev pub opening_of : Setup → Device → Keys → Opening
opening_of s who ring = record { genesis = s.genesis; kit = kit_in s who ring; key = s.private who }

-- the bytes of a device's public key
abbrev pub key_of_device : Setup → Device → List ℕ
key_of_device s who = public_key_bytes (lms_public_of (s.private who))

-- an entry that a client signed, with what the client was then
pub record Signing : Type 0 where
  pub who : Device
  pub entry : List ℕ
  pub client : PlainClient

-- the clients that are open, by their devices, and all that was ever signed
pub record World : Type 0 where
  pub clients : Device → Option PlainClient
  pub signed : List Signing

-- nothing has happened
abbrev pub start : World
start = record { clients = λ who. None; signed = [] }

-- what happens next
pub data Move : Type 0 where
  -- a device opens a client with this ring
  Open : (who : Device) → Keys → Move
  -- an event of a client
  Happen : (who : Device) → Logged → Move
  -- the server hands it bytes as the entry at a position
  Give : (who : Device) (position : ℕ) → List ℕ → Move
  -- it goes back to its first k entries
  Restart : (who : Device) (k : ℕ) → Move

-- the world with this client in its place
abbrev pub put : World → Device → PlainClient → World
put w who c = record w { clients = λ d. if same_device d who then Some c else w.clients d }

-- what a client signs by an event
abbrev pub signings : Device → PlainClient → Logged → List Signing
signings who c (Submit by bytes) = record { who = who; entry = bytes; client = c } ∷ []
signings who c event = []

-- a client after bytes were handed to it: as it was if it refuses them, or if its journal is full
abbrev pub given : PlainClient → List ℕ → Option Refusal → PlainClient
given c bytes (Some refusal) = c
given c bytes None = if journal_has_room c then accepted c bytes else c

-- the world after a move, which changes nothing if it is of a client that is not there
abbrev pub after : Setup → World → Move → World
after s w (Open who ring) = put w who (opened (opening_of s who ring))
after s w (Happen who e) = option_map_or
    (λ c. put (record w { signed = w.signed ++ signings who c e }) who (step c e)) (w.clients who) w
after s w (Give who position bytes) =
    option_map_or (λ c. put w who (given c bytes (refusal_of c position bytes))) (w.clients who) w
after s w (Restart who k) = option_map_or
    (λ c. put w who (replay c.opening (log_of_first k c))) (w.clients who) w

-- after moves in order
abbrev pub after_all : Setup → World → List Move → World
after_all s w moves = fold (after s) w moves

-- a move may happen
abbrev pub May : Setup → World → Move → Type 0
May s w (Open who r) = Contains s.devices who × Meets s.genesis 0 (get r 0) s.genesis.commitment
May s w (Happen who event) = IsSomeAnd (w.clients who) (λ c. can_log c event ≡ true)
May s w (Give who position bytes) = IsSomeAnd (w.clients who) (λ c. ⊤)
May s w (Restart who k) = IsSomeAnd (w.clients who) (λ c. k ≤ length c.entries)

-- each of the moves may happen where it stands
abbrev pub IsRun : Setup → World → List Move → Type 0
IsRun s w [] = ⊤
IsRun s w (move ∷ moves) = May s w move × IsRun s (after s w move) moves

-- the world after the first n moves
abbrev pub world_at : Setup → List Move → ℕ → World
world_at s moves n = after_all s start (take n moves)

-- the device's client then
abbrev pub IsAt : Setup → List Move → ℕ → Device → PlainClient → Type 0
IsAt s moves n who c = (world_at s moves n).clients who ≡ Some c
