-- Devices with their clients as the code keeps them, and what a call does to one.
use Rattle.std.specs.Prelude.{◌≡◌, ℕ, ◌+◌, ◌≤◌, ◌^◌, false, List, ◌++◌, length, map, slice_get}
use Rattle.std.specs.Prelude.{Option, None, Some, option_map, Result}
use Rattle.std.specs.Option.{option_to_list}
use Rattle.lms_leaf.specs.Leaves.{LeavesModel}
use Rattle.lms_tree.specs.LmsPrivate.{LmsPrivate}
use Rattle.lms_tree.specs.LmsType.{height_of}
use Rattle.sporc_member.specs.declared.device.Device.{Device}
use Rattle.sporc_client.specs.declared.fault.SubmitFault.{SubmitFault}
use Rattle.sporc_client.specs.declared.submitted.Submitted.{Submitted}
use Rattle.sporc_client.specs.ClientModel.{ClientModel, state_of, with_events}
use Rattle.sporc_client.specs.Log.{Logged}
use Rattle.sporc_client.specs.PlainClient.{PlainClient}
use Rattle.sporc_client.specs.Submissions.{entries_made, submission, submission_added}
use Rattle.sporc_play.specs.declared.seat.Rogue.{Rogue}
use Rattle.sporc_play.specs.declared.seat.Seat.{Seat}
use Rattle.sporc_play.specs.Derived.{random_of}
use Rattle.sporc_play.specs.Logs.{restarted_log}
use Rattle.sporc_play.specs.Report.{not_open_line, submit_line}
use Rattle.sporc_play.specs.Scene.{leaf_next}

-- ---- where they stand

-- who has a seat, and who is a rogue
abbrev pub seated : List Seat → List Device
seated seats = map (λ seat. seat.device) seats

abbrev pub rogue_devices : List Rogue → List Device
rogue_devices rogues = map (λ rogue. rogue.device) rogues

-- this seat of the device stands at the place
pub record IsSeatAt (seats : List Seat) (i : ℕ) (who : Device) (seat : Seat) : Type 0 where
  pub there : slice_get seats i ≡ Some seat
  pub own : seat.device ≡ who

pub record IsRogueAt (rogues : List Rogue) (i : ℕ) (who : Device) (rogue : Rogue) : Type 0 where
  pub there : slice_get rogues i ≡ Some rogue
  pub own : rogue.device ≡ who

-- ---- their clients

-- the client of a seat, as a plain record
abbrev pub plain_in : Seat → Option PlainClient
plain_in seat = option_map state_of seat.client

-- leaf numbers in memory, for a tree of a key: so many are drawn, and no disk failed
pub record AreDrawn {D : Type 0} (key : LmsPrivate) (drawn : ℕ)
    (leaves : LeavesModel D) : Type 0 where
  pub next : leaves.next ≡ drawn
  pub within : drawn ≤ 2 ^ height_of key.lms
  pub count : leaves.leaf_count ≡ 2 ^ height_of key.lms
  pub works : leaves.faulty ≡ false

-- a client can sign for its device, and keeps no ticket
pub record IsReady {D : Type 0} (private : LmsPrivate) (drawn : ℕ)
    (c : ClientModel D) : Type 0 where
  pub key : c.opening.key ≡ private
  pub leaves : AreDrawn private drawn c.leaves
  pub no_ticket : c.ticket ≡ None

-- ---- calls

-- a client whose log has the events of a call behind it
abbrev pub client_logged : {D : Type 0} → (PlainClient → List Logged) → ClientModel D
    → ClientModel D
client_logged events c = with_events c (events (state_of c))

abbrev pub seat_logged : (PlainClient → List Logged) → Seat → Seat
seat_logged events seat = record seat { client = option_map (client_logged events) seat.client }

-- a client that was to go back to its first k entries
abbrev pub client_restarted : {D : Type 0} → ℕ → ClientModel D → ClientModel D
client_restarted k c = record c { log = restarted_log c.log k (state_of c) }

abbrev pub seat_restarted : ℕ → Seat → Seat
seat_restarted k seat = record seat { client = option_map (client_restarted k) seat.client }

-- what a client of the seat answers to the next submission
abbrev pub answer_of : {D : Type 0} → Seat → ClientModel D → Result Submitted SubmitFault
answer_of seat c = submission (state_of c) (random_of seat.device (seat.asked + 1)) (leaf_next c)

-- the line of that answer, by the number of the next entry
abbrev pub submission_line : {D : Type 0} → ℕ → Seat → Option (ClientModel D) → List ℕ
submission_line next seat None = not_open_line seat.device
submission_line next seat (Some c) = submit_line seat.device next seat.last (answer_of seat c)

-- a client after a submission with this answer
pub record IsSubmitted {D : Type 0} (old : ClientModel D) (answer : Result Submitted SubmitFault)
    (new : ClientModel D) : Type 0 where
  pub opening : new.opening ≡ old.opening
  pub log : new.log ≡ old.log ++ submission_added 0 answer
  pub ready : IsReady old.opening.key (old.leaves.next + length (entries_made answer)) new

-- the client of a seat after a submission, if there is one: it made this entry, if it made any
abbrev pub ClientSubmitted : {D : Type 0} → Seat → Option (ClientModel D) → Option (List ℕ)
    → Option (ClientModel D) → Type 0
ClientSubmitted seat None made new = (new ≡ None) × (made ≡ None)
ClientSubmitted {D = D} seat (Some c) made new = (c' : ClientModel D) × (new ≡ Some c')
    × IsSubmitted c (answer_of seat c) c' × (option_to_list made ≡ entries_made (answer_of seat c))

-- the number of the last entry, once this one is made, if it is
abbrev pub last_with : ℕ → ℕ → Option (List ℕ) → ℕ
last_with next last None = last
last_with next last (Some entry) = next

-- a seat after a submission that made this entry, with the number next, if it made any
pub record HasSubmitted (next : ℕ) (old : Seat) (made : Option (List ℕ)) (new : Seat) : Type 0 where
  pub device : new.device ≡ old.device
  pub asked : new.asked ≡ old.asked + 1
  pub last : new.last ≡ last_with next old.last made
  pub signer : new.signer ≡ old.signer
  pub client : ClientSubmitted old old.client made new.client
