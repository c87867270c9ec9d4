-- The logs of the clients of a play.
use Rattle.std.specs.Prelude.{ℕ, nat_le, List, [], ◌∷◌, ◌++◌, length, Bool, true, Option, None}
use Rattle.std.specs.Prelude.{Some, if◌then◌else◌}
use Rattle.sporc_member.specs.declared.change.Change.{Change as MemberChange}
use Rattle.sporc_member.specs.declared.device.Device.{Device}
use Rattle.sporc_member.specs.Device.{same_device}
use Rattle.sporc_head.specs.declared.refusal.Refusal.{Refusal}
use Rattle.sporc_delta.specs.Marks.{Mark}
use Rattle.sporc_client.specs.Answers.{change_fault, discard_fault, edit_fault, journal_has_room}
use Rattle.sporc_client.specs.Answers.{refusal_of}
use Rattle.sporc_client.specs.Calls.{mover_of}
use Rattle.sporc_client.specs.Log.{Logged, Accept, Change, Discard, Edit}
use Rattle.sporc_client.specs.PlainClient.{PlainClient}
use Rattle.sporc_client.specs.Run.{Setup, World, Move, Open, Happen, Give, Restart, after}
use Rattle.sporc_client.specs.Step.{log_of_first}

-- what a call adds to a client's log, unless it is refused
abbrev pub logged_unless : {F : Type 0} → Option F → Logged → List Logged
logged_unless None event = event ∷ []
logged_unless (Some fault) event = []

-- what an edit by these marks adds, if it lies within the text
abbrev pub edit_logged : PlainClient → ℕ → Option (List Mark) → List Logged
edit_logged c seen None = []
edit_logged c seen (Some marks) = logged_unless (edit_fault c seen marks) (Edit 0 seen marks)

-- what bytes that are handed to a client add to its log
abbrev pub accepted_event : List ℕ → Bool → Option Refusal → List Logged
accepted_event bytes true None = Accept 0 bytes ∷ []
accepted_event bytes room refusal = []

abbrev pub given_events : PlainClient → ℕ → List ℕ → List Logged
given_events c position bytes =
    accepted_event bytes (journal_has_room c) (refusal_of c position bytes)

-- what an entry that is handed to a client adds to its log, if there is one
abbrev pub given_by : ℕ → Option (List ℕ) → PlainClient → List Logged
given_by position None c = []
given_by position (Some bytes) c = given_events c position bytes

-- what other calls add
abbrev pub change_events : MemberChange → PlainClient → List Logged
change_events change c = logged_unless (change_fault c) (Change 0 change)

abbrev pub discard_events : PlainClient → List Logged
discard_events c = logged_unless (discard_fault c) (Discard 0)

-- what a client adds, if there is one
abbrev pub events_by : (PlainClient → List Logged) → Option PlainClient → List Logged
events_by events None = []
events_by events (Some c) = events c

abbrev pub first_accepts : Option PlainClient → ℕ → List Logged
first_accepts None k = []
first_accepts (Some c) k = log_of_first k c

-- the log of a client that is to go back to its first k entries, if it has so many
abbrev pub restarted_log : List Logged → ℕ → PlainClient → List Logged
restarted_log log k c =
    if nat_le k (length c.entries) then log_of_first k c else log

-- the log of a move's client after it
abbrev pub log_after : World → List Logged → Move → List Logged
log_after w log (Open who ring) = []
log_after w log (Happen who event) = log ++ event ∷ []
log_after w log (Give who position bytes) =
    log ++ events_by (λ c. given_events c position bytes) (w.clients who)
log_after w log (Restart who k) = first_accepts (w.clients who) k

-- all logs after moves
abbrev pub logs_after : Setup → World → (Device → List Logged) → List Move → Device → List Logged
logs_after s w logs [] = logs
logs_after s w logs (move ∷ moves) = logs_after s (after s w move)
    (λ who. if same_device who (mover_of move) then log_after w (logs who) move else logs who) moves
