-- The file of a saved history.
--
-- | Field | Bytes | Rule |
-- | format | 4 | `SPH1` |
-- | document | 16 | |
-- | count | 4 | at most MAX_ENTRIES |
-- | entries | each counted | as many as the count says, oldest first |
--
-- Nothing follows.
use Rattle.std.specs.Prelude.{◌≡◌, ℕ, zero, suc, ◌-◌, ◌^◌, nat_eq, nat_le, nat_lt, List, [], ◌∷◌}
use Rattle.std.specs.Prelude.{◌++◌, length, take, drop, codes, Result, Ok, Err, if◌then◌else◌}
use Rattle.std.specs.List.{flat_map, starts_with}
use Rattle.std.specs.Int.{w32, to_be_bytes}
use Rattle.sporc_outside.specs.declared.file_fault.TheConstants.{MAX_FILE}
use Rattle.sporc_bytes.specs.Fields.{Reading, ◌>>=◌, fault_as, number_at, only_if, counted_at}
use Rattle.sporc_bytes.specs.Fields.{counted, end_at}
use Rattle.sporc_head.specs.declared.limits.TheConstants.{MAX_ENTRIES}
use Rattle.sporc_wire.specs.Messages.{counted_to_end}
use Rattle.sporc_store.specs.declared.fault.SaveFault.{SaveFault}
use Rattle.sporc_store.specs.declared.fault.SaveFault.TheVariants.{TooLong}
use Rattle.sporc_store.specs.declared.head.TheConstants.{HEAD_LEN}
use Rattle.sporc_store.specs.declared.stop.Stop.{Stop}
use Rattle.sporc_store.specs.declared.stop.Stop.TheVariants.{End, Foreign, Cut, Refused}

-- ---- writing

-- the format and the document
abbrev pub head_bytes : List ℕ → List ℕ
head_bytes document = codes "SPH1" ++ document

-- the file of a history of a document
unfoldable pub saved_bytes : List ℕ → List (List ℕ) → List ℕ
saved_bytes document entries =
    head_bytes document ++ (to_be_bytes w32 (length entries) ++ flat_map counted entries)

-- that file, if it is not too long
abbrev pub saved_file : List ℕ → List (List ℕ) → Result (List ℕ) SaveFault
saved_file document entries =
    let bytes = saved_bytes document entries in
    if nat_lt MAX_FILE (length bytes) then Err (TooLong (counted_to_end (length bytes)))
    else Ok bytes

-- ---- reading

-- the entries before the place at which reading stops, and that stop
pub record Taken : Type 0 where
  pub entries : List (List ℕ)
  pub stop : Stop

abbrev pub read_to : List (List ℕ) → Stop → Taken
read_to entries stop = record { entries = entries; stop = stop }

-- an entry, and what is taken behind it
abbrev pub first_and : List ℕ → Taken → Taken
first_and e others = read_to (e ∷ others.entries) others.stop

-- where reading stops behind the last entry
abbrev pub stop_behind : Result (Unit {0}) ℕ → Stop
stop_behind (Ok end) = End
stop_behind (Err at) = Cut at

-- a stop that no check of an entry made
abbrev pub IsUnchecked : Stop → Type 0
IsUnchecked End = Unit {0}
IsUnchecked Foreign = Unit {0}
IsUnchecked (Cut at) = Unit {0}
IsUnchecked (Refused position refusal) = ⊥

-- an entry that was read, and what is taken behind it
abbrev pub entry_and : Result (List ℕ × Reading) ℕ → (Reading → Taken) → Taken
entry_and (Ok e) others = first_and e.0 (others e.1)
entry_and (Err at) others = read_to [] (Cut at)

-- so many counted entries, as far as they are whole
unfoldable pub entries_at : ℕ → Reading → Taken
entries_at zero r = read_to [] (stop_behind (end_at r))
entries_at (suc n) r = entry_and (counted_at (2 ^ 32 - 1) r) (entries_at n)

-- the number of entries
unfoldable pub count_at : Reading → Result (ℕ × Reading) ℕ
count_at r = do
  count ← number_at w32 r
  allowed ← only_if (nat_le count.0 MAX_ENTRIES) r.at count.0
  Ok (allowed, count.1)

-- how many entries a file of a document has, and its bytes from the first of them on
unfoldable pub opened : List ℕ → List ℕ → Result (ℕ × Reading) Stop
opened document bytes =
    if starts_with nat_eq bytes (head_bytes document)
    then fault_as Cut (count_at (record { rest = drop HEAD_LEN bytes; at = HEAD_LEN }))
    else Err Foreign

abbrev pub listed : Result (ℕ × Reading) Stop → Taken
listed (Ok found) = entries_at found.0 found.1
listed (Err stop) = read_to [] stop

-- what a file of a document's history says, unchecked
unfoldable pub saved_in : List ℕ → List ℕ → Taken
saved_in document bytes = listed (opened document bytes)

-- these entries are the first of those
abbrev pub IsPrefix : List (List ℕ) → List (List ℕ) → Type 0
IsPrefix prefix entries = prefix ≡ take (length prefix) entries
