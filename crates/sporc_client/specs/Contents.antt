-- What an entry of a pending item asks of its history, and what is known of it once it was made.
use Rattle.std.specs.Prelude.{◌≡◌, ℕ, ◌+◌, ◌≤◌, true, false, List, length, is_some, None, Some}
use Rattle.sporc_delta.specs.Format.{delta_bytes}
use Rattle.sporc_delta.specs.Typed.{IsTypedDelta}
use Rattle.sporc_member.specs.Roster.{after_change, change_fault_of, key_of, numbers_of}
use Rattle.sporc_entry.specs.ChangeBody.{IsChangeBody}
use Rattle.sporc_entry.specs.Entry.{entry_of}
use Rattle.sporc_entry.specs.Version.{version_of}
use Rattle.sporc_epoch.specs.Sealing.{body_sealed, least_unpaired}
use Rattle.sporc_head.specs.declared.limits.TheConstants.{MAX_ENTRIES}
use Rattle.sporc_head.specs.History.{is_removed, roster_of}
use Rattle.sporc_line.specs.Good.{Good}
use Rattle.sporc_line.specs.LineModel.{LineModel}
use Rattle.sporc_client.specs.declared.limits.TheConstants.{MAX_HEAD_BYTES}
use Rattle.sporc_client.specs.declared.pending.Pending.{Pending}
use Rattle.sporc_client.specs.declared.pending.Pending.TheVariants.{Edit, Change}
use Rattle.sporc_client.specs.Allowed.{is_made}
use Rattle.sporc_client.specs.ClientModel.{leaf_in}
use Rattle.sporc_client.specs.Entries.{sealing_of}
use Rattle.sporc_client.specs.Log.{Submit}
use Rattle.sporc_client.specs.PlainClient.{PlainClient}
use Rattle.sporc_client.specs.Soundness.{IsInFlight}

-- an edit has few enough bytes; a change is accepted by the members, with a pairwise key for each
-- of them after it
abbrev pub Fits : LineModel → Pending → Type 0
Fits line (Edit marks) = length (delta_bytes marks) ≤ MAX_HEAD_BYTES
Fits line (Change change) = (change_fault_of (roster_of line.genesis line.entries) change ≡ None)
    × (least_unpaired line.kit.pairs
    (numbers_of (after_change (roster_of line.genesis line.entries) change).members) ≡ None)

-- the history is good and has room, it doesn't remove the device, which is live, and the item fits
pub record CanTake (line : LineModel) (item : Pending) : Type 0 where
  pub good : Good line.genesis line.kit line.entries
  pub room : length line.entries + 1 ≤ MAX_ENTRIES
  pub not_removed : is_removed line.kit.me line.entries ≡ false
  pub live : is_some (key_of (roster_of line.genesis line.entries) line.kit.me) ≡ true
  pub fits : Fits line item

-- what the entry of an item holds is spelled as its format has it
abbrev pub IsSpelled : LineModel → ℕ → List ℕ → Pending → Type 0
IsSpelled line leaf new_key (Edit marks) = IsTypedDelta marks
IsSpelled line leaf new_key (Change change) =
    IsChangeBody (version_of (roster_of line.genesis line.entries).upgraded)
    (body_sealed (sealing_of line leaf new_key change) line.kit.pairs)

-- a client can submit these bytes, signed by this leaf: its log allows them, and they are the entry
-- of its first item
pub record IsSubmission (c : PlainClient) (leaf : ℕ) (bytes : List ℕ) : Type 0 where
  pub allowed : is_made c bytes (entry_of bytes) ≡ true
  pub leaf_is : leaf_in (Submit 0 bytes) ≡ Some leaf
  pub in_flight : IsInFlight c bytes
