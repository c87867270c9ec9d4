-- What contracts see of an entry that was checked.
use Rattle.std.specs.Prelude.{ℕ, List}
use Rattle.sporc_entry.specs.declared.entry.Entry.{Entry}
use Rattle.sporc_entry.specs.EntryView.{entry_within, EntryViewInvariant}
use Rattle.sporc_head.specs.declared.checked.Checked.TheInside.{Inside}

-- the entry, the bytes that spell it, and the value of the chain after it
pub record CheckedModel : Type 0 where
  pub entry : Entry
  pub bytes : List ℕ
  pub hash : List ℕ

-- the entry within its bytes
abbrev pub entry_in : Inside → Entry
entry_in a = entry_within a.header a.bytes a.body_len

abbrev pub model_of : Inside → CheckedModel
model_of a = record { entry = entry_in a; bytes = a.bytes; hash = a.hash }

-- the bytes spell the entry, and the change is the one that it holds
abbrev pub invariant_of : Inside → Type 0
invariant_of a = EntryViewInvariant (entry_in a) a.bytes a.change
