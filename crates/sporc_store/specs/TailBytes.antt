-- The file of a log's tail: the entries that were ordered since the log was saved.
--
-- | Field | Bytes | Rule |
-- | format | 4 | `SPT1` |
-- | document | 16 | |
--
-- Then records, up to the end:
--
-- | position | 4 | one more than that of the record before |
-- | entry | counted | at most MAX_ENTRY |
--
-- It is read behind a log. Bytes that end before a record does are the record that was being
-- written as the server was stopped, and count as none; so does a head that is cut.
use Rattle.std.specs.Prelude.{◌≡◌, ◌&&◌, Bool, true, false, ◌+◌, ◌-◌, ◌<◌, ◌≤◌, ◌^◌, ℕ, zero, suc}
use Rattle.std.specs.Prelude.{nat_eq, nat_le, List, [], ◌∷◌, ◌++◌, length, take, drop, codes}
use Rattle.std.specs.Prelude.{Result, Ok, Err, if◌then◌else◌}
use Rattle.std.specs.List.{All, starts_with}
use Rattle.std.specs.Int.{w32, to_be_bytes}
use Rattle.std.specs.Str.{bytes_eq}
use Rattle.sporc_bytes.specs.Fields.{Reading, ◌>>=◌, fault_as, number_at, bytes_at, only_if}
use Rattle.sporc_bytes.specs.Fields.{counted}
use Rattle.sporc_entry.specs.declared.limits.TheConstants.{MAX_ENTRY}
use Rattle.sporc_store.specs.declared.head.TheConstants.{HEAD_LEN}
use Rattle.sporc_store.specs.declared.tail_fault.TailFault.{TailFault}
use Rattle.sporc_store.specs.declared.tail_fault.TailFault.TheVariants.{Malformed, Memory}
use Rattle.sporc_store.specs.declared.tail_reading.RecordEnd.{RecordEnd}
use Rattle.sporc_store.specs.declared.tail_reading.RecordEnd.TheVariants.{Cut, Misfit}
use Rattle.sporc_store.specs.SavedFile.{IsPrefix}

-- ---- writing

-- the format and the document
abbrev pub tail_head : List ℕ → List ℕ
tail_head document = codes "SPT1" ++ document

-- an entry at its position
abbrev pub record_bytes : ℕ → List ℕ → List ℕ
record_bytes position entry = to_be_bytes w32 position ++ counted entry

-- entries from a position on
abbrev pub records_bytes : ℕ → List (List ℕ) → List ℕ
records_bytes position [] = []
records_bytes position (e ∷ es) = record_bytes position e ++ records_bytes (position + 1) es

-- the tail of a document with these entries, which stand behind so many
unfoldable pub tail_bytes : List ℕ → ℕ → List (List ℕ) → List ℕ
tail_bytes document from entries = tail_head document ++ records_bytes (from + 1) entries

-- ---- reading

-- the entry of a record with this position, and what is left behind it
unfoldable pub record_at : ℕ → Reading → Result (List ℕ × Reading) RecordEnd
record_at position r = do
  found ← fault_as (λ at. Cut) (number_at w32 r)
  placed ← only_if (nat_eq found.0 position) (Misfit r.at) found.1
  count ← fault_as (λ at. Cut) (number_at w32 placed)
  len ← only_if (nat_le count.0 MAX_ENTRY) (Misfit placed.at) count.0
  fault_as (λ at. Cut) (bytes_at len count.1)

-- the entries that a log lacks, and where the last whole record ends
pub record TailTaken : Type 0 where
  pub entries : List (List ℕ)
  pub whole : ℕ

abbrev pub taken_to : List (List ℕ) → ℕ → TailTaken
taken_to entries whole = record { entries = entries; whole = whole }

-- an entry, and what is taken behind it
abbrev pub entry_and_tail : List ℕ → Result TailTaken TailFault → Result TailTaken TailFault
entry_and_tail e (Ok others) = Ok (taken_to (e ∷ others.entries) others.whole)
entry_and_tail e (Err fault) = Err fault

-- an entry that the log lacks, or one that it has: then it is the log's, or its place is at fault
abbrev pub kept_and : List (List ℕ) → List ℕ → ℕ → (List (List ℕ) → Result TailTaken TailFault)
    → Result TailTaken TailFault
kept_and [] e place others = entry_and_tail e (others [])
kept_and (a ∷ ahead) e place others = if bytes_eq a e then others ahead else Err (Malformed place)

-- a record that begins at a place, and those behind it
abbrev pub record_and : ℕ → Result (List ℕ × Reading) RecordEnd → List (List ℕ)
    → (List (List ℕ) → Reading → Result TailTaken TailFault) → Result TailTaken TailFault
record_and at (Ok found) ahead others =
    kept_and ahead found.0 (at + 8) (λ rest. others rest found.1)
record_and at (Err Cut) ahead others = Ok (taken_to [] at)
record_and at (Err (Misfit place)) ahead others = Err (Malformed place)

-- at most so many records from a position on, behind a log that has these entries from there on
unfoldable pub records_behind : ℕ → List (List ℕ) → ℕ → Reading → Result TailTaken TailFault
records_behind zero ahead position r = Ok (taken_to [] r.at)
records_behind (suc n) ahead position r = record_and r.at (record_at position r) ahead
    (λ rest others. records_behind n rest (position + 1) others)

-- entries that were taken, and what is taken behind them
abbrev pub behind_taken : List (List ℕ) → Result TailTaken TailFault → Result TailTaken TailFault
behind_taken entries (Ok others) = Ok (taken_to (entries ++ others.entries) others.whole)
behind_taken entries (Err fault) = Err fault

-- what is taken in all, of at most so many records: these entries, and what is taken behind them
abbrev pub taken_from : List (List ℕ) → List (List ℕ) → ℕ → Reading → ℕ → Result TailTaken TailFault
taken_from entries ahead position r n =
    behind_taken entries (records_behind n ahead position r)

-- a tail that is read so is malformed at a place, or memory ran out
abbrev pub IsUnread : Result TailTaken TailFault → TailFault → Type 0
IsUnread tail (Malformed at) = tail ≡ Err (Malformed at)
IsUnread tail Memory = Unit {0}
IsUnread tail fault = ⊥

-- the next record was read: what is taken is what is taken behind it, or these entries, or it was
-- at fault, or memory ran out
abbrev pub GoesOn : Result TailTaken TailFault → Result TailTaken TailFault → TailTaken
    → Result Bool TailFault → Type 0
GoesOn before after taken (Ok true) = before ≡ after
GoesOn before after taken (Ok false) = before ≡ Ok taken
GoesOn before after taken (Err fault) = IsUnread before fault

-- so for any number of records, of which there is one fewer behind it
abbrev pub TakesOne : (ℕ → Result TailTaken TailFault) → (ℕ → Result TailTaken TailFault)
    → TailTaken → Result Bool TailFault → Type 0
TakesOne before after taken result =
    (n : ℕ) → GoesOn (before (suc n)) (after n) taken result

-- the records behind a head, of which there are fewer than bytes: the first of them has a position
-- of the log, or the one behind it
abbrev pub records_of : List (List ℕ) → Reading → Result (ℕ × Reading) ℕ
    → Result TailTaken TailFault
records_of log r (Err at) = Ok (taken_to [] r.at)
records_of log r (Ok first) =
    if nat_le 1 first.0 && nat_le first.0 (length log + 1)
    then records_behind (length r.rest) (drop (first.0 - 1) log) first.0 r
    else Err (Malformed r.at)

abbrev pub behind_head : List ℕ → Reading
behind_head bytes = record { rest = drop HEAD_LEN bytes; at = HEAD_LEN }

-- what a document's tail of these bytes has behind a log
unfoldable pub tail_behind : List (List ℕ) → List ℕ → List ℕ → Result TailTaken TailFault
tail_behind log document bytes =
    if starts_with nat_eq bytes (tail_head document)
    then records_of log (behind_head bytes) (number_at w32 (behind_head bytes))
    else if starts_with nat_eq (tail_head document) bytes then Ok (taken_to [] 0)
    else Err (Malformed 0)

-- ---- what a crash leaves of a tail

-- what both lists have stands in both
abbrev pub Agree : List (List ℕ) → List (List ℕ) → Type 0
Agree [] all = Unit {0}
Agree (a ∷ ahead) [] = Unit {0}
Agree (a ∷ ahead) (e ∷ es) = (a ≡ e) × Agree ahead es

-- an entry that a record can hold
abbrev pub FitsRecord : List ℕ → Type 0
FitsRecord entry = length entry ≤ MAX_ENTRY

-- of the tail of these entries, and the first so many bytes of the next record, but not all of it,
-- those are read that a log lacks, which has as many as the tail was opened behind, or more
abbrev pub IsReadBehind : List (List ℕ) → List (List ℕ) → List ℕ → ℕ → List ℕ → ℕ → Type 0
IsReadBehind log all document from next kept =
    length document ≡ 16 → from ≤ length log → Agree (drop from log) all → All FitsRecord all
    → FitsRecord next → from + length all + 1 < 2 ^ 32
    → kept < length (record_bytes (from + length all + 1) next) → tail_behind log document
    (tail_bytes document from all ++ take kept (record_bytes (from + length all + 1) next))
    ≡ Ok (taken_to (drop (length (drop from log)) all) (length (tail_bytes document from all)))

-- the tail of these entries, and behind it a prefix of the next record, which is all of it at the
-- most
pub record IsTail (document : List ℕ) (from : ℕ) (entries : List (List ℕ)) (next : List ℕ)
    (kept : ℕ) (bytes : List ℕ) : Type 0 where
  pub bytes_are : bytes ≡ tail_bytes document from entries
      ++ take kept (record_bytes (from + length entries + 1) next)
  pub fit : All FitsRecord entries
  pub next_fits : FitsRecord next
  pub positions : from + length entries < 2 ^ 31

-- behind a log it gives these entries, the log's first
pub record GivesBehind (log : List (List ℕ)) (document bytes : List ℕ)
    (entries : List (List ℕ)) : Type 0 where
  pub taken : TailTaken
  pub reads : tail_behind log document bytes ≡ Ok taken
  pub all : log ++ taken.entries ≡ entries

-- what bytes give behind a log, others give
abbrev pub GivesSame : List (List ℕ) → List ℕ → List ℕ → List ℕ → Type 0
GivesSame log document old new = (entries : List (List ℕ))
    → GivesBehind log document old entries → GivesBehind log document new entries

-- behind a log it gives at least these entries, the log's first
pub record Recovers (log : List (List ℕ)) (document bytes : List ℕ)
    (entries : List (List ℕ)) : Type 0 where
  pub taken : TailTaken
  pub reads : tail_behind log document bytes ≡ Ok taken
  pub all : IsPrefix entries (log ++ taken.entries)
