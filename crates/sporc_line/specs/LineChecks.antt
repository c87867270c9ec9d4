-- The checks of an entry that is to stand at a position of a history, one line each.
use Rattle.std.specs.Prelude.{ℕ, ◌+◌, ◌==◌, Bool, false, ◌&&◌, ◌||◌, List, [], ◌∷◌, ◌++◌, length}
use Rattle.std.specs.Prelude.{take, Option, None, Some, is_some}
use Rattle.std.specs.Str.{bytes_eq}
use Rattle.sporc_base.specs.FirstFault.{unless}
use Rattle.sporc_hash.specs.Chain.{commitment_of}
use Rattle.sporc_delta.specs.Marks.{Mark, base_len}
use Rattle.sporc_member.specs.declared.device.Device.{Device}
use Rattle.sporc_member.specs.Roster.{removes}
use Rattle.sporc_entry.specs.declared.entry.Entry.{Entry}
use Rattle.sporc_entry.specs.declared.change.ChangeBody.{ChangeBody}
use Rattle.sporc_entry.specs.declared.genesis.Genesis.{Genesis}
use Rattle.sporc_entry.specs.Entry.{entry_of, change_of}
use Rattle.sporc_epoch.specs.Wraps.{previous_opened}
use Rattle.sporc_head.specs.declared.refusal.Refusal.{Refusal}
use Rattle.sporc_head.specs.declared.refusal.Refusal.TheVariants.{BadPayload, WrongLength, NoKey}
use Rattle.sporc_head.specs.declared.refusal.Refusal.TheVariants.{WrongKey}
use Rattle.sporc_head.specs.History.{changes, epoch_of}
use Rattle.sporc_head.specs.HeadChecks.{head_checks, fault_read}
use Rattle.sporc_line.specs.Kit.{Kit}
use Rattle.sporc_line.specs.Keys.{key_after, epoch_key}
use Rattle.sporc_line.specs.Operations.{edit_marks}
use Rattle.sporc_line.specs.Document.{text_of}

-- whether marks, where there are any, are stated on a text of this length
abbrev pub is_over : ℕ → Option (List Mark) → Bool
is_over len None = false
is_over len (Some marks) = base_len marks == len

-- the checks of an edit's marks, where the text that it states as its base has this length
abbrev pub edit_checks : ℕ → Option (List Mark) → List (Option Refusal)
edit_checks len marks =
    unless (is_some marks) BadPayload
    ∷ unless (is_over len marks) WrongLength
    ∷ []

-- whether a key meets the commitment of the change that starts its epoch, and opens the sealed key
-- of the epoch before
abbrev pub is_new_key : List ℕ → ℕ → ChangeBody → Option (List ℕ) → Option (List ℕ) → Bool
is_new_key document epoch c (Some old) (Some key) =
    bytes_eq (commitment_of document epoch key) c.commitment
    && bytes_eq (previous_opened c epoch key) old
is_new_key document epoch c old key = false

-- the checks of the key that a change starts, for a device that it doesn't remove
abbrev pub new_key_checks : List ℕ → Device → ℕ → ChangeBody → Option (List ℕ) → Option (List ℕ)
    → List (Option Refusal)
new_key_checks document me epoch c old key =
    unless (removes me c.change || is_some key) NoKey
    ∷ unless (removes me c.change || is_new_key document epoch c old key) WrongKey
    ∷ []

-- the checks that need keys
abbrev pub key_checks_of : Genesis → Kit → List (List ℕ) → Entry → Option ChangeBody
    → List (Option Refusal)
key_checks_of genesis kit entries e None =
    edit_checks (length (text_of genesis kit (take e.header.base entries)))
    (edit_marks (epoch_key genesis kit entries e.header.epoch) e)
key_checks_of genesis kit entries e (Some c) =
    let epoch = epoch_of entries in
    let next = changes entries ++ record { header = e.header; body = c } ∷ [] in
    new_key_checks genesis.document kit.me (epoch + 1) c (epoch_key genesis kit entries epoch)
    (key_after genesis kit next (epoch + 1))

unfoldable pub key_checks : Genesis → Kit → List (List ℕ) → Entry → List (Option Refusal)
key_checks genesis kit entries e = key_checks_of genesis kit entries e (change_of e)

-- all checks, in their order
abbrev pub line_checks : Genesis → Kit → List (List ℕ) → ℕ → Entry → List (Option Refusal)
line_checks genesis kit entries position e =
    head_checks genesis (Some kit.me) entries position e ++ key_checks genesis kit entries e

-- the first check that fails of an entry that is to stand at a position
unfoldable pub first_fault : Genesis → Kit → List (List ℕ) → ℕ → List ℕ → Option Refusal
first_fault genesis kit entries position bytes =
    fault_read (line_checks genesis kit entries position) (entry_of bytes)
