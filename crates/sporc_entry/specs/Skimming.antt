-- Reading of which only a part is kept.
use Rattle.std.specs.Prelude.{ℕ, List, Option, Result, Ok, Err}
use Rattle.std.specs.Result.{result_ok}
use Rattle.sporc_bytes.specs.Fields.{Reading}
use Rattle.sporc_entry.specs.declared.entry.Entry.{Entry}
use Rattle.sporc_entry.specs.declared.header.Header.{Header}
use Rattle.sporc_entry.specs.Entry.{entry_of}

-- what is left behind a value that was read
abbrev pub left_by : {A : Type 0} → Result (A × Reading) ℕ → Result Reading ℕ
left_by (Ok x) = Ok x.1
left_by (Err at) = Err at

-- the header of an entry, or what reading it met
abbrev pub header_of : Result Entry ℕ → Result Header ℕ
header_of (Ok e) = Ok e.header
header_of (Err at) = Err at

-- the header of the entry that bytes spell, if they spell one
unfoldable pub header_in : List ℕ → Option Header
header_in bytes = result_ok (header_of (entry_of bytes))
