-- What taking a prepared entry asks of a client's own part, and what it does.
use Rattle.std.specs.Prelude.{◌≡◌, ℕ, ◌+◌, ◌<◌, ◌≤◌, List, [], ◌∷◌, ◌++◌, length}
use Rattle.std.specs.Option.{is_some}
use Rattle.sporc_delta.specs.declared.limits.TheConstants.{MAX_COUNT, MAX_TEXT_LEN}
use Rattle.sporc_delta.specs.Marks.{Mark, base_len, inserted_len}
use Rattle.sporc_suffix.specs.Forms.{Follow, reached}
use Rattle.sporc_member.specs.declared.device.Device.{Device}
use Rattle.sporc_member.specs.Device.{same_device}
use Rattle.sporc_entry.specs.Entry.{author_device, change_of}
use Rattle.sporc_line.specs.Document.{text_after}
use Rattle.sporc_line.specs.LineModel.{LineModel}
use Rattle.sporc_line.specs.Prepared.{PreparedModel}
use Rattle.sporc_client.specs.declared.event.Event.TheVariants as events
use Rattle.sporc_client.specs.declared.limits.TheConstants.{MAX_EVENTS}
use Rattle.sporc_client.specs.Coming.{Effect, coming_of, flight_after, pending_after, shown_form}
use Rattle.sporc_client.specs.Rebasing.{AreOver, inserted_by}
use Rattle.sporc_client.specs.Step.{is_same_as}
use Rattle.sporc_client.specs.Workspace.{WorkspaceModel}

-- what an entry of these bytes does to the pending items and to the entry on its way, at a client
-- of this device
abbrev pub coming_at : Device → WorkspaceModel → List ℕ → PreparedModel → Effect
coming_at me own bytes p =
    coming_of (is_same_as own.flight bytes) (is_some (change_of p.checked.entry))
    (same_device (author_device p.checked.entry.header) me) p.form own.pending

-- and its shown delta
abbrev pub form_at : WorkspaceModel → List ℕ → PreparedModel → List Mark
form_at own bytes p = shown_form (is_same_as own.flight bytes) (is_some (change_of p.checked.entry))
    (length (text_after own.shown)) p.form own.pending

-- its form and the pending items can pass each other, and one more event may be
pub record CanSettle (own : WorkspaceModel) (p : PreparedModel) : Type 0 where
  pub follow : Follow 0 own.shown
  pub short : length (text_after own.shown) ≤ MAX_COUNT
  pub over : AreOver (base_len p.form) own.pending
  pub limit : base_len p.form + inserted_len p.form + inserted_by own.pending ≤ MAX_TEXT_LEN
  pub base : base_len (form_at own p.checked.bytes p) ≡ reached 0 own.shown
  pub room : length own.shown < MAX_EVENTS

-- the line and the own part afterwards
pub record Takes (line line' : LineModel) (own own' : WorkspaceModel) (by : ℕ)
    (p : PreparedModel) : Type 0 where
  pub genesis : line'.genesis ≡ line.genesis
  pub kit : line'.kit ≡ line.kit
  pub entries : line'.entries ≡ line.entries ++ p.checked.bytes ∷ []
  pub pending : own'.pending
      ≡ pending_after (coming_at line.kit.me own p.checked.bytes p) own.pending
  pub flight : own'.flight ≡ flight_after (coming_at line.kit.me own p.checked.bytes p) own.flight
  pub shown : own'.shown ≡ own.shown ++ form_at own p.checked.bytes p ∷ []
  pub journal : own'.journal ≡ own.journal ++ events.Accept by (length line.entries + 1) ∷ []
