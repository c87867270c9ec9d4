-- The log of a client: its journal, with the bytes of each entry that was accepted.
use Rattle.std.specs.Prelude.{ℕ, ◌+◌, ◌-◌, List, [], ◌∷◌, ◌++◌, length, map}
use Rattle.std.specs.Prelude.{slice_index_or}
use Rattle.sporc_delta.specs.Marks.{Mark}
use Rattle.sporc_member.specs.declared.change.Change.{Change as MemberChange}
use Rattle.sporc_member.specs.declared.change.ChangeFault.{ChangeFault}
use Rattle.sporc_client.specs.declared.event.Event.{Event}
use Rattle.sporc_client.specs.declared.event.Event.TheVariants as events

-- an event; `by` is the number of who made it
pub data Logged : Type 0 where
  -- an edit of the text that was shown after `seen` events
  Edit : (by seen : ℕ) → List Mark → Logged
  Change : (by : ℕ) → MemberChange → Logged
  -- this entry was made of the first pending item
  Submit : (by : ℕ) → List ℕ → Logged
  -- the first pending item, a change, was taken off
  Dropped : (by : ℕ) → ChangeFault → Logged
  -- this entry was accepted
  Accept : (by : ℕ) → List ℕ → Logged
  Discard : (by : ℕ) → Logged

-- who made an event
abbrev pub by_of : Logged → ℕ
by_of (Edit by seen marks) = by
by_of (Change by change) = by
by_of (Submit by entry) = by
by_of (Dropped by fault) = by
by_of (Accept by entry) = by
by_of (Discard by) = by

-- the entries that an event adds to the history
abbrev pub entries_by : Logged → List (List ℕ)
entries_by (Edit by seen marks) = []
entries_by (Change by change) = []
entries_by (Submit by entry) = []
entries_by (Dropped by fault) = []
entries_by (Accept by entry) = entry ∷ []
entries_by (Discard by) = []

-- the entries that were accepted
abbrev pub accepted_in : List Logged → List (List ℕ)
accepted_in [] = []
accepted_in (event ∷ log) = entries_by event ++ accepted_in log

-- an event as the journal has it, behind so many accepted entries: an accepted entry is named by
-- its place
abbrev pub stored_event : ℕ → Logged → Event
stored_event accepted (Edit by seen marks) = events.Edit by seen marks
stored_event accepted (Change by change) = events.Change by change
stored_event accepted (Submit by entry) = events.Submit by entry
stored_event accepted (Dropped by fault) = events.Dropped by fault
stored_event accepted (Accept by entry) = events.Accept by (accepted + 1)
stored_event accepted (Discard by) = events.Discard by

-- the journal of a log, behind so many accepted entries
abbrev pub journal_from : ℕ → List Logged → List Event
journal_from accepted [] = []
journal_from accepted (event ∷ log) =
    stored_event accepted event ∷ journal_from (accepted + length (entries_by event)) log

abbrev pub journal_of : List Logged → List Event
journal_of log = journal_from 0 log

-- an event of a journal with the entry that it names
abbrev pub filled_event : List (List ℕ) → Event → Logged
filled_event entries (events.Edit by seen marks) = Edit by seen marks
filled_event entries (events.Change by change) = Change by change
filled_event entries (events.Submit by entry) = Submit by entry
filled_event entries (events.Dropped by fault) = Dropped by fault
filled_event entries (events.Accept by place) = Accept by (slice_index_or entries (place - 1) [])
filled_event entries (events.Discard by) = Discard by

-- the log of a journal and the history that it led to
abbrev pub log_of : List (List ℕ) → List Event → List Logged
log_of entries journal = map (filled_event entries) journal
