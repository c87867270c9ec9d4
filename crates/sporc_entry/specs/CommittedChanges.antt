-- The changes among the entries of a history.
use Rattle.std.specs.Prelude.{Result, Ok, Err, ℕ, List, Option, None, Some, filter_map}
use Rattle.sporc_entry.specs.declared.committed.CommittedChange.{CommittedChange}
use Rattle.sporc_entry.specs.declared.entry.Entry.{Entry}
use Rattle.sporc_entry.specs.declared.change.ChangeBody.{ChangeBody}
use Rattle.sporc_entry.specs.Entry.{entry_of, change_of}

abbrev pub committed_by : Entry → Option ChangeBody → Option CommittedChange
committed_by e None = None
committed_by e (Some c) = Some (record { header = e.header; body = c })

abbrev pub change_read : Result Entry ℕ → Option CommittedChange
change_read (Ok e) = committed_by e (change_of e)
change_read (Err at) = None

-- the change that an entry's bytes hold
unfoldable pub change_in : List ℕ → Option CommittedChange
change_in bytes = change_read (entry_of bytes)

-- the changes of a history, in order
abbrev pub changes : List (List ℕ) → List CommittedChange
changes entries = filter_map change_in entries
