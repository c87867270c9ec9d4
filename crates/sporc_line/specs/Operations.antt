-- A history as a member reads it: what each entry does.
use Rattle.std.specs.Prelude.{ℕ, List, map, Option, None, Some, Result, Ok, Err}
use Rattle.std.specs.Result.{result_ok}
use Rattle.sporc_cipher.specs.Mask.{mask_of}
use Rattle.sporc_delta.specs.Marks.{Mark}
use Rattle.sporc_delta.specs.Reading.{read_delta}
use Rattle.sporc_member.specs.declared.change.Change.{Change}
use Rattle.sporc_member.specs.declared.device.Device.{Device}
use Rattle.sporc_member.specs.Device.{first_device}
use Rattle.sporc_entry.specs.declared.entry.Entry.{Entry}
use Rattle.sporc_entry.specs.declared.change.ChangeBody.{ChangeBody}
use Rattle.sporc_entry.specs.declared.genesis.Genesis.{Genesis}
use Rattle.sporc_entry.specs.Entry.{author_device, entry_of, change_of}
use Rattle.sporc_epoch.specs.Streams.{stream_of}
use Rattle.sporc_line.specs.Kit.{Kit}
use Rattle.sporc_line.specs.Keys.{epoch_key}

-- what an entry does: it edits the text, it changes the members, or it can't be read
pub data What : Type 0 where
  Edited : List Mark → What
  Changed : Change → What
  Unread : What

-- an entry as those who have its key read it
pub record Operation : Type 0 where
  pub author : Device
  pub number : ℕ
  pub base : ℕ
  pub what : What

-- the delta that a masked body holds under a key, by the stream of its entry
abbrev pub marks_in : List ℕ → ℕ → List ℕ → Option (List Mark)
marks_in key stream body = result_ok (read_delta (mask_of key stream body))

-- an edit's marks, its body unmasked under its epoch's key, where there is that key and the body is
-- a delta
abbrev pub edit_marks : Option (List ℕ) → Entry → Option (List Mark)
edit_marks None e = None
edit_marks (Some key) e = marks_in key (stream_of e.header) e.body

abbrev pub edited : Option (List Mark) → What
edited None = Unread
edited (Some marks) = Edited marks

abbrev pub what_of : Option (List ℕ) → Entry → Option ChangeBody → What
what_of key e None = edited (edit_marks key e)
what_of key e (Some c) = Changed c.change

-- an entry, where this is its epoch's key
abbrev pub operation_of : Option (List ℕ) → Entry → Operation
operation_of key e = record {
  author = author_device e.header;
  number = e.header.number;
  base = e.header.base;
  what = what_of key e (change_of e);
}

abbrev pub operation_read : (ℕ → Option (List ℕ)) → Result Entry ℕ → Operation
operation_read keys (Ok e) = operation_of (keys e.header.epoch) e
operation_read keys (Err at) =
    record { author = first_device 0; number = 0; base = 0; what = Unread }

-- what an entry's bytes do, under the keys of epochs
unfoldable pub operation_in : (ℕ → Option (List ℕ)) → List ℕ → Operation
operation_in keys bytes = operation_read keys (entry_of bytes)

-- a history as a member reads it
abbrev pub operations : Genesis → Kit → List (List ℕ) → List Operation
operations genesis kit entries = map (operation_in (epoch_key genesis kit entries)) entries
