-- An entry read where its bytes stand.
use Rattle.std.specs.Prelude.{◌≡◌, ℕ, ◌+◌, List, take, drop, Option}
use Rattle.sporc_entry.specs.declared.change.ChangeBody.{ChangeBody}
use Rattle.sporc_entry.specs.declared.entry.Entry.{Entry}
use Rattle.sporc_entry.specs.declared.header.Header.{Header}
use Rattle.sporc_entry.specs.Entry.{entry_bytes, change_of, IsEntry}
use Rattle.sporc_entry.specs.Version.{body_place}

-- what contracts see of it: the entry, and the bytes that spell it
pub record EntryViewModel : Type 0 where
  pub entry : Entry
  pub bytes : List ℕ

-- an entry of these parts
abbrev pub parts_entry : Header → List ℕ → List ℕ → Entry
parts_entry header body signature = record { header = header; body = body; signature = signature }

-- the entry that bytes spell, by its header and the length of its body: behind the body stand the
-- four bytes of its signature's length
abbrev pub entry_within : Header → List ℕ → ℕ → Entry
entry_within header bytes len =
    parts_entry header (take len (drop (body_place header.version) bytes))
    (drop (body_place header.version + 4 + len) bytes)

-- the bytes spell it, and it holds this change
pub record EntryViewInvariant (e : Entry) (bytes : List ℕ) (held : Option ChangeBody) : Type 0 where
  pub entry : IsEntry e
  pub spelled : bytes ≡ entry_bytes e
  pub change : held ≡ change_of e
