-- Fields read from the first byte on. Reading gives a value and what is left, or the first fault.
-- Of a field the fault is the place of its first byte, if it is cut short or has a forbidden value;
-- `fault_as` makes any other fault of that. Numbers are big-endian.
use Rattle.std.specs.Prelude.{◌≡◌, ℕ, zero, suc, ◌+◌, ◌&&◌, Bool, true, false, nat_lt, nat_le, List}
use Rattle.std.specs.Prelude.{[], ◌∷◌, ◌++◌, length, take, drop, Option, None, Some, Result, Ok}
use Rattle.std.specs.Prelude.{Err, if◌then◌else◌}
use Rattle.std.specs.Int.{Width, w32, byte_len, from_be_bytes, to_be_bytes}
use Rattle.sporc_bytes.specs.declared.cursor.Short.{Short}

-- the bytes that are left, and the place of the first of them
pub record Reading : Type 0 where
  pub rest : List ℕ
  pub at : ℕ

-- what is left after n bytes more
abbrev pub past : ℕ → Reading → Reading
past n r = record { rest = drop n r.rest; at = r.at + n }

-- one field, and then more that depends on its value
infixl 10 ◌>>=◌
abbrev pub ◌>>=◌ : {A B F : Type 0} → Result A F → (A → Result B F) → Result B F
(Ok x) >>= f = f x
(Err fault) >>= f = Err fault

-- an answer whose fault is told in other words
abbrev pub fault_as : {A D F : Type 0} → (D → F) → Result A D → Result A F
fault_as f (Ok x) = Ok x
fault_as f (Err fault) = Err (f fault)

-- so many bytes
unfoldable pub bytes_at : ℕ → Reading → Result (List ℕ × Reading) ℕ
bytes_at n r = if nat_lt (length r.rest) n then Err r.at else Ok (take n r.rest, past n r)

-- a number of this width
unfoldable pub number_at : Width → Reading → Result (ℕ × Reading) ℕ
number_at w r = do
  bytes ← bytes_at (byte_len w) r
  Ok (from_be_bytes w bytes.0, bytes.1)

-- a value, if it is allowed
abbrev pub only_if : {A F : Type 0} → Bool → F → A → Result A F
only_if true fault x = Ok x
only_if false fault x = Err fault

-- a value, if there is one
abbrev pub present : {A F : Type 0} → F → Option A → Result A F
present fault None = Err fault
present fault (Some x) = Ok x

-- a number from low to high
unfoldable pub number_within : ℕ → ℕ → Width → Reading → Result (ℕ × Reading) ℕ
number_within low high w r = do
  n ← number_at w r
  allowed ← only_if (nat_le low n.0 && nat_le n.0 high) r.at n.0
  Ok (allowed, n.1)

-- four bytes of length, at most a limit, and that many bytes: two fields
unfoldable pub counted_at : ℕ → Reading → Result (List ℕ × Reading) ℕ
counted_at limit r = do
  n ← number_at w32 r
  len ← only_if (nat_le n.0 limit) r.at n.0
  bytes_at len n.1

-- so many values, each read from what the one before it leaves
unfoldable pub values_at : {A S : Type 0} → (S → Result (A × S) ℕ) → ℕ → S → Result (List A × S) ℕ
values_at read zero s = Ok ([], s)
values_at read (suc n) s = do
  first ← read s
  others ← values_at read n first.1
  Ok (first.0 ∷ others.0, others.1)

-- a value whose number is at least this, and the least number of the one after it
unfoldable pub next_of :
    {A : Type 0} → (ℕ → Reading → Result (A × Reading) ℕ) → (A → ℕ)
    → ℕ × Reading → Result (A × (ℕ × Reading)) ℕ
next_of read number (least, r) = do
  value ← read least r
  Ok (value.0, (number value.0 + 1, value.1))

-- so many values in ascending order of their numbers, the first of which is at least this
unfoldable pub ascending_at :
    {A : Type 0} → (ℕ → Reading → Result (A × Reading) ℕ) → (A → ℕ)
    → ℕ → ℕ → Reading → Result (List A × Reading) ℕ
ascending_at read number first n r = do
  values ← values_at (next_of read number) n (first, r)
  Ok (values.0, values.1.1)

-- nothing is left
abbrev pub end_at : Reading → Result (Unit {0}) ℕ
end_at r = elim r.rest [ [] ↦ Ok tt | b ∷ bs ↦ Err r.at ]

-- the bytes of a counted string
abbrev pub counted : List ℕ → List ℕ
counted bytes = to_be_bytes w32 (length bytes) ++ bytes

-- a call that returned this, seen by view, read so
abbrev pub Reads : {X Y : Type 0} → (X → Y) → Result X Short → Result Y ℕ → Type 0
Reads view (Ok x) read = read ≡ Ok (view x)
Reads view (Err short) read = read ≡ Err short.0
