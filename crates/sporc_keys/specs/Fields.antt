-- What the files of keys and of rings have in common.
use Rattle.std.specs.Prelude.{ℕ, List, bytes_eq, Result, Ok}
use Rattle.sporc_bytes.specs.Fields.{Reading, ◌>>=◌, bytes_at, only_if, end_at}

-- the four bytes that name a format
unfoldable pub format_at : List ℕ → Reading → Result Reading ℕ
format_at format r = do
  bytes ← bytes_at 4 r
  only_if (bytes_eq bytes.0 format) r.at bytes.1

-- a value that is read from all of some bytes
abbrev pub whole : {A : Type 0} → (Reading → Result (A × Reading) ℕ) → List ℕ → Result A ℕ
whole read bytes = do
  value ← read (record { rest = bytes; at = 0 })
  end ← end_at value.1
  Ok value.0
