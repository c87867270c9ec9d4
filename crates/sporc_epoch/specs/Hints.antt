-- The keys of epochs that a history gives to a member whom one of its changes adds. They are hints:
-- nothing here says that the history is a good one.
use Rattle.std.specs.Prelude.{ℕ, ◌+◌, ◌==◌, Bool, false, not, ◌&&◌, nat_lt, List, [], ◌∷◌, map}
use Rattle.std.specs.Prelude.{reverse, find, take_while, Option, None, Some, is_some, Result, Ok}
use Rattle.std.specs.Prelude.{Err, if◌then◌else◌}
use Rattle.std.specs.Str.{bytes_eq}
use Rattle.std.specs.FinMap.{empty, insert}
use Rattle.sporc_hash.specs.Chain.{commitment_of}
use Rattle.sporc_cipher.specs.Mask.{mask_of}
use Rattle.sporc_member.specs.declared.change.Change.{Change}
use Rattle.sporc_member.specs.declared.change.Change.TheVariants.{Add}
use Rattle.sporc_entry.specs.declared.committed.CommittedChange.{CommittedChange}
use Rattle.sporc_entry.specs.CommittedChanges.{changes}
use Rattle.sporc_epoch.specs.declared.fault.HintFault.{HintFault}
use Rattle.sporc_epoch.specs.declared.fault.HintFault.TheVariants.{NotAdded, NoPairKey, WrongKey}
use Rattle.sporc_epoch.specs.declared.start.EpochStart.{EpochStart}
use Rattle.sporc_epoch.specs.declared.streams.TheConstants.{MAX_EPOCH}
use Rattle.sporc_epoch.specs.Keys.{Keys}
use Rattle.sporc_epoch.specs.Streams.{stream_of, previous_stream}
use Rattle.sporc_epoch.specs.Wraps.{wrap_for, wrap_opened}

-- ---- the change that adds the member

-- whether a change adds this member
abbrev pub adds : ℕ → Change → Bool
adds me (Add member role key) = member == me
adds me _ = false

-- whether a change adds this member, with a wrap for it, and leaves an epoch to start
abbrev pub joins : ℕ → CommittedChange → Bool
joins me c =
    adds me c.body.change && is_some (wrap_for me c.body.wraps) && nat_lt c.header.epoch MAX_EPOCH

-- what a change says of the epoch that it starts
abbrev pub start_by : CommittedChange → EpochStart
start_by c = record {
  ended = c.header.epoch;
  document = c.header.document;
  commitment = c.body.commitment;
  previous = c.body.previous;
}

-- the first change that adds this member
abbrev pub joining : ℕ → List CommittedChange → Option CommittedChange
joining me committed = find (joins me) committed

-- what the changes before it say of epochs, the nearest first
abbrev pub starts_before : ℕ → List CommittedChange → List EpochStart
starts_before me committed = reverse (map start_by (take_while (λ c. not (joins me c)) committed))

-- ---- the walk back

-- whether it is of this epoch
abbrev pub is_of : EpochStart → ℕ → Bool
is_of start epoch = start.ended + 1 == epoch

-- whether a key is the one that a change committed to
abbrev pub is_committed : EpochStart → ℕ → List ℕ → Bool
is_committed start epoch key = bytes_eq (commitment_of start.document epoch key) start.commitment

-- a key more, unless there is a fault
abbrev pub with_key : ℕ → List ℕ → Result (List (ℕ × List ℕ)) HintFault
    → Result (List (ℕ × List ℕ)) HintFault
with_key epoch key (Ok keys) = Ok ((epoch, key) ∷ keys)
with_key epoch key (Err fault) = Err fault

-- the keys of the epochs from this one down, of which the first is given: the change that started
-- an epoch is the nearest that ended the one before, and its sealed key opens under the epoch's
unfoldable pub keys_back : ℕ → List ℕ → List EpochStart → Result (List (ℕ × List ℕ)) HintFault
keys_back epoch key [] = Ok ((epoch, key) ∷ [])
keys_back epoch key (start ∷ starts) =
    if is_of start epoch then (if is_committed start epoch key then with_key epoch key
    (keys_back start.ended (mask_of key (previous_stream epoch) start.previous) starts)
    else Err (WrongKey epoch))
    else keys_back epoch key starts

-- a ring with keys more
abbrev pub with_keys : Keys → List (ℕ × List ℕ) → Keys
with_keys ring [] = ring
with_keys ring ((epoch, key) ∷ keys) = with_keys (insert ring epoch key) keys

-- a ring with keys more, which may be missing
abbrev pub ring_of : Keys → Result (List (ℕ × List ℕ)) HintFault → Result Keys HintFault
ring_of ring (Ok keys) = Ok (with_keys ring keys)
ring_of ring (Err fault) = Err fault

-- ---- hints

-- the keys back from the epoch that a change starts, if its key was opened
abbrev pub hints_under : CommittedChange → List EpochStart → Option (List ℕ) → Result Keys HintFault
hints_under c starts None = Err (NoPairKey c.header.author)
hints_under c starts (Some key) =
    ring_of empty (keys_back (c.header.epoch + 1) key (start_by c ∷ starts))

-- the keys back from the change that adds a member, if there is one
abbrev pub hints_at : ℕ → Keys → List EpochStart → Option CommittedChange → Result Keys HintFault
hints_at me pairs starts None = Err NotAdded
hints_at me pairs starts (Some c) =
    hints_under c starts (wrap_opened c.body c.header.author (stream_of c.header) me pairs)

-- the keys of epochs that a history gives to a member whom it adds
unfoldable pub hints_of : List (List ℕ) → ℕ → Keys → Result Keys HintFault
hints_of entries me pairs =
    hints_at me pairs (starts_before me (changes entries)) (joining me (changes entries))
