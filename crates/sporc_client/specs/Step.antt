-- What each event does to a client, and the replay of a log.
use Rattle.std.specs.Prelude.{ℕ, ◌++◌, List, [], ◌∷◌, length, drop, take, map, fold, Bool, false}
use Rattle.std.specs.Prelude.{Option, None, Some, if◌then◌else◌}
use Rattle.std.specs.Str.{bytes_eq}
use Rattle.std.specs.Option.{is_some}
use Rattle.sporc_delta.specs.Marks.{Mark, replacement, keep_marks}
use Rattle.sporc_suffix.specs.Forms.{later_over}
use Rattle.sporc_head.specs.History.{change_in, is_by}
use Rattle.sporc_line.specs.Document.{next_form}
use Rattle.sporc_client.specs.declared.pending.Pending.TheVariants as items
use Rattle.sporc_client.specs.Log.{Logged, Edit, Change, Submit, Dropped, Accept, Discard}
use Rattle.sporc_client.specs.PlainClient.{Opening, PlainClient, opened, me_of, committed_of}
use Rattle.sporc_client.specs.PlainClient.{shown_of}
use Rattle.sporc_client.specs.Rebasing.{rebased, beyond}

-- the form that an entry gets at the end of the history
abbrev pub form_coming : PlainClient → List ℕ → List Mark
form_coming c bytes = next_form c.opening.genesis c.opening.kit c.entries bytes

-- the delta that keeps the shown text
abbrev pub keeps : PlainClient → List Mark
keeps c = keep_marks (length (shown_of c))

abbrev pub is_same_as : Option (List ℕ) → List ℕ → Bool
is_same_as None bytes = false
is_same_as (Some flight) bytes = bytes_eq flight bytes

-- the entry is the one on its way
abbrev pub is_flight : PlainClient → List ℕ → Bool
is_flight c bytes = is_same_as c.flight bytes

-- the entry on its way comes back
abbrev pub own_comes : PlainClient → List ℕ → PlainClient
own_comes c bytes = record c {
  entries = c.entries ++ bytes ∷ [];
  pending = drop 1 c.pending;
  flight = None;
  shown = c.shown ++ keeps c ∷ [];
}

-- any other change comes
abbrev pub change_comes : PlainClient → List ℕ → PlainClient
change_comes c bytes = record c {
  entries = c.entries ++ bytes ∷ [];
  flight = None;
  shown = c.shown ++ keeps c ∷ [];
}

-- any other edit comes. One of the client's own takes the number of the entry on its way
abbrev pub edit_comes : PlainClient → List ℕ → PlainClient
edit_comes c bytes =
    let form = form_coming c bytes in
    record c {
      entries = c.entries ++ bytes ∷ [];
      pending = rebased form c.pending;
      flight = if is_by (me_of c) bytes then None else c.flight;
      shown = c.shown ++ beyond form c.pending ∷ [];
    }

abbrev pub accepted : PlainClient → List ℕ → PlainClient
accepted c bytes =
    if is_flight c bytes then own_comes c bytes
    else if is_some (change_in bytes) then change_comes c bytes
    else edit_comes c bytes

-- an edit's marks, restated on the shown text
abbrev pub restated : PlainClient → ℕ → List Mark → List Mark
restated c seen marks = later_over marks (drop seen c.shown)

-- a client after an event
abbrev pub step : PlainClient → Logged → PlainClient
step c (Edit by seen marks) = record c {
  pending = c.pending ++ items.Edit (restated c seen marks) ∷ [];
  shown = c.shown ++ restated c seen marks ∷ [];
}
step c (Change by change) =
    record c { pending = c.pending ++ items.Change change ∷ []; shown = c.shown ++ keeps c ∷ [] }
step c (Submit by bytes) = record c { flight = Some bytes; shown = c.shown ++ keeps c ∷ [] }
step c (Dropped by fault) = record c { pending = drop 1 c.pending; shown = c.shown ++ keeps c ∷ [] }
step c (Accept by bytes) = accepted c bytes
step c (Discard by) = record c {
  pending = [];
  flight = None;
  shown = c.shown ++ replacement (length (shown_of c)) (committed_of c) ∷ [];
}

-- a client after a log, from any moment on, and from its opening on
abbrev pub replay_from : PlainClient → List Logged → PlainClient
replay_from c log = fold step c log

unfoldable pub replay : Opening → List Logged → PlainClient
replay opening log = replay_from (opened opening) log

-- the log of a client that has these entries and nothing of its own, as one that was restarted or
-- resumed
abbrev pub log_of_entries : List (List ℕ) → List Logged
log_of_entries entries = map (Accept 0) entries

-- the log of one that went back to its first k entries
abbrev pub log_of_first : ℕ → PlainClient → List Logged
log_of_first k c = log_of_entries (take k c.entries)
