-- What the calls of a client answer: edits, changes, entries that come, and going back.
use Rattle.std.specs.Prelude.{ℕ, ◌==◌, nat_le, nat_lt, Bool, not, ◌&&◌, is_some, List, [], ◌∷◌}
use Rattle.std.specs.Prelude.{length, take, Option, None, Some, option_map, Result, Ok, Err}
use Rattle.std.specs.Prelude.{if◌then◌else◌}
use Rattle.std.specs.Option.{option_or}
use Rattle.sporc_base.specs.FirstFault.{unless, first_of}
use Rattle.sporc_delta.specs.Format.{delta_bytes}
use Rattle.sporc_delta.specs.Marks.{Mark, base_len}
use Rattle.sporc_head.specs.declared.refusal.Refusal.{Refusal}
use Rattle.sporc_head.specs.HeadChecks.{allows_member}
use Rattle.sporc_head.specs.History.{is_removed, roster_of}
use Rattle.sporc_member.specs.Roster.{key_of, member_at}
use Rattle.sporc_line.specs.Document.{text_after}
use Rattle.sporc_line.specs.LineChecks.{first_fault}
use Rattle.sporc_line.specs.LineModel.{LineModel}
use Rattle.sporc_client.specs.declared.limits.TheConstants.{MAX_EDIT_BYTES, MAX_EVENTS, MAX_PENDING}
use Rattle.sporc_client.specs.declared.fault.AcceptFault.{AcceptFault}
use Rattle.sporc_client.specs.declared.fault.AcceptFault.TheVariants.{JournalFull, Refused}
use Rattle.sporc_client.specs.declared.fault.EditFault.{EditFault}
use Rattle.sporc_client.specs.declared.fault.EditFault.TheVariants as edits
use Rattle.sporc_client.specs.declared.fault.RestartFault.{RestartFault}
use Rattle.sporc_client.specs.declared.fault.RestartFault.TheVariants as restarts
use Rattle.sporc_client.specs.declared.pending.Pending.{Pending}
use Rattle.sporc_client.specs.Log.{Logged}
use Rattle.sporc_client.specs.PlainClient.{PlainClient, line_of}

-- whether the history removes the client's member, or drops its device
abbrev pub is_out : PlainClient → Bool
is_out c = is_removed c.opening.kit.me c.entries

-- whether the device is live and its member may make such entries, 1 for edits and 2 for changes
abbrev pub has_right : LineModel → ℕ → Bool
has_right line kind =
    let roster = roster_of line.genesis line.entries in
    allows_member kind (member_at roster line.kit.me.member) && is_some (key_of roster line.kit.me)

-- whether one more event may be
abbrev pub journal_has_room : PlainClient → Bool
journal_has_room c = nat_lt (length c.shown) MAX_EVENTS

-- the checks of one more pending item and one more event
abbrev pub room_checks : List Pending → List (List Mark) → List (Option EditFault)
room_checks pending shown =
    unless (nat_lt (length pending) MAX_PENDING) edits.PendingFull
    ∷ unless (nat_lt (length shown) MAX_EVENTS) edits.JournalFull ∷ []

-- the checks of an edit, which is stated on the text that was shown after so many events
abbrev pub edit_checks : LineModel → List Pending → List (List Mark) → ℕ → List Mark
    → List (Option EditFault)
edit_checks line pending shown seen marks =
    unless (not (is_removed line.kit.me line.entries)) edits.Removed
    ∷ unless (has_right line 1) edits.NoRight
    ∷ unless (nat_le seen (length shown)) (edits.SeenAhead (length shown))
    ∷ unless (base_len marks == length (text_after (take seen shown))) edits.WrongLength
    ∷ unless (nat_le (length (delta_bytes marks)) MAX_EDIT_BYTES)
    (edits.TooLong (length (delta_bytes marks))) ∷ room_checks pending shown

unfoldable pub edit_fault : PlainClient → ℕ → List Mark → Option EditFault
edit_fault c seen marks = first_of (edit_checks (line_of c) c.pending c.shown seen marks)

-- the checks of a change, whatever it changes
abbrev pub change_checks : LineModel → List Pending → List (List Mark) → List (Option EditFault)
change_checks line pending shown =
    unless (not (is_removed line.kit.me line.entries)) edits.Removed
    ∷ unless (has_right line 2) edits.NoRight
    ∷ room_checks pending shown

unfoldable pub change_fault : PlainClient → Option EditFault
change_fault c = first_of (change_checks (line_of c) c.pending c.shown)

-- why nothing is given up
abbrev pub discard_fault : PlainClient → Option EditFault
discard_fault c = unless (journal_has_room c) edits.JournalFull

-- an entry's first failed check, or else that the journal is full
abbrev pub or_full : Bool → Option Refusal → Option AcceptFault
or_full room r = option_or (option_map Refused r) (if room then None else Some JournalFull)

abbrev pub refusal_of : PlainClient → ℕ → List ℕ → Option Refusal
refusal_of c position bytes = first_fault c.opening.genesis c.opening.kit c.entries position bytes

unfoldable pub accept_fault : PlainClient → ℕ → List ℕ → Option AcceptFault
accept_fault c position bytes = or_full (journal_has_room c) (refusal_of c position bytes)

-- why a client doesn't go back to its first k entries
abbrev pub restart_fault : PlainClient → ℕ → Option RestartFault
restart_fault c k = unless (nat_le k (length c.entries)) (restarts.Ahead (length c.entries))

-- what a call added to the log: its event if it answered Ok
abbrev pub added : {X F : Type 0} → Result X F → Logged → List Logged
added (Ok x) event = event ∷ []
added (Err fault) event = []
