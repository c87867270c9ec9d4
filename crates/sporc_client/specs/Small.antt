-- How much a client holds.
use Rattle.std.specs.Prelude.{◌*◌, ◌≤◌, List, [], ◌∷◌, length, ⊤}
use Rattle.sporc_delta.specs.Marks.{inserted_len}
use Rattle.sporc_suffix.specs.Forms.{all_inserted}
use Rattle.sporc_head.specs.declared.limits.TheConstants.{MAX_ENTRIES}
use Rattle.sporc_client.specs.declared.limits.TheConstants.{MAX_EDIT_BYTES, MAX_EVENTS}
use Rattle.sporc_client.specs.declared.limits.TheConstants.{MAX_HEAD_BYTES, MAX_PENDING}
use Rattle.sporc_client.specs.declared.limits.TheConstants.{MAX_SHOWN_LEN}
use Rattle.sporc_client.specs.declared.pending.Pending.{Pending}
use Rattle.sporc_client.specs.declared.pending.Pending.TheVariants.{Edit, Change}
use Rattle.sporc_client.specs.PlainClient.{PlainClient, committed_of}

-- no edit inserts more characters than an edit may have bytes
abbrev pub AreShort : List Pending → Type 0
AreShort [] = ⊤
AreShort (Edit marks ∷ items) = (inserted_len marks ≤ MAX_EDIT_BYTES) × AreShort items
AreShort (Change change ∷ items) = AreShort items

-- the limits are kept, and so all lengths are small
pub record IsSmall (c : PlainClient) : Type 0 where
  pub entries : length c.entries ≤ MAX_ENTRIES
  pub committed : length (committed_of c) ≤ MAX_HEAD_BYTES * length c.entries
  pub pending : length c.pending ≤ MAX_PENDING
  pub short : AreShort c.pending
  pub events : length c.shown ≤ MAX_EVENTS
  pub shown : all_inserted c.shown ≤ MAX_SHOWN_LEN * length c.shown
